-- What the meaning of a sheet says clause by clause: the lowest clause that matches, with what its pattern gives its names, each of them
-- once; and so what is said of a walk that answers the same.
use Rattle.std.specs.Prelude.{ℕ, zero, suc, ◌+◌, ◌<◌, ◌≡◌, ◌⊎◌, Bool, true, List, [], ◌∷◌, ◌++◌, map, eqb, length}
use Rattle.std.proofs.Common.{arith, sym, ap₂, ◌∙◌, inl, inr, eqb-true}
use Rattle.std.proofs.Math.Path.{refl, ap}
use Rattle.std.proofs.Math.Bool.{false}
use Rattle.std.proofs.Math.Option.{Option, none, some}
use Rattle.base_words.specs.Words.{either}
use Rattle.base_words.specs.WordsLaws.{either_false}
use Rattle.spec_rules.specs.Searching.{lowest}
use Rattle.spec_rules.specs.SearchingLaws.{lowest_some, lowest_none, lowest_make_none}
use Rattle.spec_rules.specs.SheetFile.{clauses}
use Rattle.spec_rules.specs.Patterns.{Pat, Pats, discard, variable, assign, integer, bytestring, listed, tailed, constructor, opened, pnil, pcons, many, clause_pattern, clause_patterns, names, names_of}
use Rattle.spec_rules.specs.Rows.{bit}
use Rattle.spec_rules.specs.PanelFile.{record_first}
use Rattle.spec_rules.specs.SheetRefusals.{is_in, repeats}
use Rattle.spec_rules.specs.Walking.{Position, Bound, panel_root, Walked, reached, no_leaf, stuck}
use Rattle.spec_rules.specs.Meaning.{part_at, elements_at, after, matches, gives, gives_each, first_match}
use Rattle.spec_rules.specs.Calls.{sheet_patterns, meaning}
use Rattle.spec_accepted.specs.SheetFacts.{Accepted}
use Rattle.spec_match.specs.Bindings.{total, SameUpToOrder, same_length}
use Rattle.spec_match.specs.Answers.{SameAnswer}
use Rattle.spec_theorems.specs.Said.{clause_matches, FirstMatch, NoMatch, times_bound, EndsAt}
use Rattle.spec_theorems.specs.Stages.{lowest_make}

-- ---- the first clause that matches is the lowest
of_first : List ℕ → List ℕ → Option ℕ → Walked
of_first s v none = no_leaf
of_first s v (some c) = reached c (gives (clause_pattern s c) v panel_root)

first_match_lowest : (s v : List ℕ) (c n : ℕ) → first_match c (clause_patterns s c n) v ≡ of_first s v (lowest (clause_matches s v) c n)
unfolding first_match clause_patterns lowest
first_match_lowest s v c zero = unfold of_first in refl
first_match_lowest s v c (suc n) = go (clause_matches s v c) refl (first_match_lowest s v (c + 1) n)
  where
    go : (b : Bool) → clause_matches s v c ≡ b → first_match (c + 1) (clause_patterns s (c + 1) n) v ≡ of_first s v (lowest (clause_matches s v) (c + 1) n)
        → first_match c (clause_patterns s c (suc n)) v ≡ of_first s v (lowest (clause_matches s v) c (suc n))
    go true e ih = let f : matches (clause_pattern s c) v panel_root ≡ true = unfold clause_matches in e in rw (e, lowest) (rw (f, first_match) (unfold of_first in refl))
    go false e ih = let f : matches (clause_pattern s c) v panel_root ≡ false = unfold clause_matches in e in rw (e, lowest) (rw (f, first_match) ih)

module _ (s v : List ℕ) where
  meaning_lowest : meaning s v ≡ of_first s v (lowest (clause_matches s v) 0 (clauses s))
  unfolding meaning sheet_patterns
  meaning_lowest = first_match_lowest s v 0 (clauses s)

  pub meaning_first : (c : ℕ) → FirstMatch s v c → meaning s v ≡ reached c (gives (clause_pattern s c) v panel_root)
  unfolding of_first
  meaning_first c l = meaning_lowest ∙ ap (of_first s v) (lowest_make (clause_matches s v) 0 (clauses s) c l)

  pub meaning_none : NoMatch s v → meaning s v ≡ no_leaf
  unfolding of_first
  meaning_none h = meaning_lowest ∙ ap (of_first s v) (lowest_make_none (clause_matches s v) 0 (clauses s) (λ c low high. h c (omega arith)))

  -- a clause matches, or none does
  pub first_or_none : ((c : ℕ) × FirstMatch s v c) ⊎ NoMatch s v
  first_or_none = go (lowest (clause_matches s v) 0 (clauses s)) refl
    where
      go : (o : Option ℕ) → lowest (clause_matches s v) 0 (clauses s) ≡ o
          → ((c : ℕ) × FirstMatch s v c) ⊎ NoMatch s v
      go none e = inr (λ c l. lowest_none (clause_matches s v) 0 (clauses s) e c (omega arith) (omega arith))
      go (some c) e = inl (c, lowest_some (clause_matches s v) 0 (clauses s) c e)

-- ---- a pattern gives its names, from left to right
abbrev given_names : List Bound → List ℕ
given_names bs = map (λ b. b.name) bs

given_names_append : (bs cs : List Bound) → given_names (bs ++ cs) ≡ given_names bs ++ given_names cs
given_names_append [] cs = refl
given_names_append (b ∷ bs) cs = ap (λ z. b.name ∷ z) (given_names_append bs cs)

mutual
  unfolding gives names

  gives_names : (q : Pat) (v : List ℕ) (x : Position) → given_names (gives q v x) ≡ names q
  gives_names (discard m) v x = refl
  gives_names (variable m y) v x = refl
  gives_names (assign m y q) v x = ap (λ z. y ∷ z) (gives_names q v x)
  gives_names (integer m at w) v x = refl
  gives_names (bytestring m at w) v x = refl
  gives_names (listed m qs) v x = gives_each_names qs v (elements_at v x)
  gives_names (tailed m qs q) v x =
      given_names_append (gives_each qs v (elements_at v x)) (gives q v (after (many qs) x))
      ∙ ap₂ ◌++◌ (gives_each_names qs v (elements_at v x)) (gives_names q v (after (many qs) x))
  gives_names (constructor m a qs) v x = gives_each_names qs v (record_first v x.place)
  gives_names (opened m o qs) v x = gives_each_names qs v (record_first v x.place)

  gives_each_names : (qs : Pats) (v : List ℕ) (j : ℕ) → given_names (gives_each qs v j) ≡ names_of qs
  gives_each_names pnil v j = refl
  gives_each_names (pcons q qs) v j =
      given_names_append (gives q v (part_at v j)) (gives_each qs v (j + 1)) ∙ ap₂ ◌++◌ (gives_names q v (part_at v j)) (gives_each_names qs v (j + 1))

length_given : (bs : List Bound) → length (given_names bs) ≡ length bs
length_given [] = refl
length_given (b ∷ bs) = ap suc (length_given bs)

-- ---- how often a name is bound
times_in : ℕ → List ℕ → ℕ
unfolding bit
times_in x [] = 0
times_in x (y ∷ ys) = bit (eqb x y) + times_in x ys

times_bound_names : (x : ℕ) (bs : List Bound) → times_bound x bs ≡ times_in x (given_names bs)
unfolding times_bound times_in
times_bound_names x [] = refl
times_bound_names x (b ∷ bs) = ap (λ n. bit (eqb x b.name) + n) (times_bound_names x bs)

times_bound_total : (x : ℕ) (bs : List Bound) → times_bound x bs ≡ total (λ b. bit (eqb x b.name)) bs
unfolding times_bound total
times_bound_total x [] = refl
times_bound_total x (b ∷ bs) = ap (λ n. bit (eqb x b.name) + n) (times_bound_total x bs)

times_none : (x : ℕ) (ys : List ℕ) → is_in x ys ≡ false → times_in x ys ≡ 0
unfolding times_in is_in bit
times_none x [] h = refl
times_none x (y ∷ ys) h =
    let (a, b) = either_false (eqb x y) (is_in x ys) h in
    rw a (omega (arith, times_none x ys b))

-- in a list with no number twice
times_once : (x : ℕ) (ys : List ℕ) → repeats ys ≡ false → times_in x ys ≡ bit (is_in x ys)
unfolding times_in is_in repeats bit
times_once x [] h = refl
times_once x (y ∷ ys) h =
    let (new, rest) = either_false (is_in y ys) (repeats ys) h in
    go (eqb x y) refl new (times_once x ys rest)
  where
    go : (b : Bool) → eqb x y ≡ b → is_in y ys ≡ false → times_in x ys ≡ bit (is_in x ys) → bit (eqb x y) + times_in x ys ≡ bit (either (eqb x y) (is_in x ys))
    go true e new ih = rw e (omega (arith, times_none x ys (ap (λ z. is_in z ys) (eqb-true x y e) ∙ new)))
    go false e new ih = rw e (omega arith)

-- ---- a walk that answers the same as the meaning
module _ (s v : List ℕ) (a : Accepted s) (w : Walked) where
  same_reached : (c : ℕ) (ys : List Bound) → SameAnswer w (reached c ys) → (xs : List Bound) × (w ≡ reached c xs) × SameUpToOrder xs ys
  same_reached c ys h = go w refl h
    where
      go : (u : Walked) → w ≡ u → SameAnswer u (reached c ys) → (xs : List Bound) × (w ≡ reached c xs) × SameUpToOrder xs ys
      go (reached d xs) e k = (xs, e ∙ ap (λ z. reached z xs) k.0, k.1)
      go no_leaf e k = absurd k
      go stuck e k = absurd k

  pub ends_at : (c : ℕ) → FirstMatch s v c → SameAnswer w (meaning s v) → EndsAt s v c w
  ends_at c l h =
      let ys : List Bound = gives (clause_pattern s c) v panel_root in
      let (xs, e, same) = same_reached c ys (rw (meaning_first s v c l) at h) in
      let inside : c < clauses s = omega (arith, l.to) in
      let of_names : given_names ys ≡ names (clause_pattern s c) = gives_names (clause_pattern s c) v panel_root in
      record {
        bounds = xs;
        at_leaf = e;
        as_given = same;
        each_name_once = λ x.
            times_bound_total x xs
            ∙ same (λ b. bit (eqb x b.name))
            ∙ sym (times_bound_total x ys)
            ∙ times_bound_names x ys
            ∙ ap (times_in x) of_names
            ∙ times_once x (names (clause_pattern s c)) (a.names_once c inside);
        as_many = same_length xs ys same ∙ sym (length_given ys) ∙ ap length of_names;
      }

  pub ends_without : NoMatch s v → SameAnswer w (meaning s v) → w ≡ no_leaf
  ends_without n h = go w refl (rw (meaning_none s v n) at h)
    where
      go : (u : Walked) → w ≡ u → SameAnswer u no_leaf → w ≡ no_leaf
      go (reached d xs) e k = absurd k
      go no_leaf e k = e
      go stuck e k = absurd k
