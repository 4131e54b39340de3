-- The clauses' patterns are trees that share no pattern: whatever is counted at each pattern, the counts of the trees come to no more
-- than the count over all patterns. So a clause has at most as many names as there are patterns.
use Rattle.std.specs.Prelude.{◌≡◌, Bool, List, leb, ltb}
use Rattle.std.proofs.Math.Path.{refl, ap, sym}
use Rattle.std.proofs.Common.{◌∙◌, eqb-true, eq-eqb}
use Rattle.std.proofs.Math.Bool.{true, false}
use Prim.Native.Nat.{ℕ, zero, suc, ◌+◌, ◌-◌, ◌*◌, ◌≤◌, ◌<◌}
use native.Mathlib.Omega.{arith}
use Rattle.std.proofs.Math.ListN.{length, length-append}
use Rattle.base_words.specs.Words.{both, pick}
use Rattle.spec_rules.specs.Limits.{patterns_most}
use Rattle.spec_rules.specs.Searching.{times}
use Rattle.spec_rules.specs.SheetFile.{patterns, children, clauses, pattern_kind, pattern_first, pattern_count, child, root}
use Rattle.spec_rules.specs.Patterns.{PatternKind, Discard, Variable, Assign, Integer, ByteString, ListOfAll, ListWithRest, Constructor, Pair, Tuple, Unknown, pattern_kind_of}
use Rattle.spec_rules.specs.SheetRefusals.{has_children, is_root, is_entry, lists}
use Rattle.spec_accepted.specs.SheetFacts.{Counted, Shaped, owns_listed, listed_owns}
use Rattle.format_sheet.specs.Shape.{children_first, children_count}
use Rattle.format_sheet.specs.Names.{name_of_kind, own_name, joined, names_to, names_in}
use Rattle.format_parts.specs.Sums.{sum, sum_same, sum_more, sum_most, sum_none, sum_add, sum_part, sum_exchange, sum_picked, sum_times, sum_run}

-- f at each pattern; at each root; at each entry; at the children of p
module _ (s : List ℕ) (f : ℕ → ℕ) where
  abbrev pub at_all : ℕ
  at_all = sum f 0 (patterns s)

  abbrev pub at_roots : ℕ
  at_roots = sum (λ c. f (root s c)) 0 (clauses s)

  abbrev pub at_entries : ℕ
  at_entries = sum (λ j. f (child s j)) 0 (children s)

  abbrev pub at_children : ℕ → ℕ
  at_children p = sum (λ j. f (child s j)) (children_first s p) (children_count s p)

module _ (s : List ℕ) (sh : Shaped s) (f : ℕ → ℕ) where
  -- "each pattern is exactly one clause's root or exactly one entry"
  at_pattern : (q : ℕ) → q < patterns s → f q ≡ sum (λ c. pick (is_root s q c) (f q) 0) 0 (clauses s) + sum (λ j. pick (is_entry s q j) (f q) 0) 0 (children s)
  at_pattern q h =
      let once : (times (is_root s q) 0 (clauses s) + times (is_entry s q) 0 (children s)) * f q ≡ 1 * f q = ap (λ (k : ℕ). k * f q) (sh.stands_once_holds q h) in
      omega (arith, once, sum_times (is_root s q) (f q) 0 (clauses s), sum_times (is_entry s q) (f q) 0 (children s))

  root_picked : (c : ℕ) → c < clauses s → sum (λ q. pick (is_root s q c) (f q) 0) 0 (patterns s) ≡ f (root s c)
  unfolding is_root
  root_picked c h =
      sum_picked (λ q. is_root s q c) f 0 (patterns s) (root s c) (omega arith) (omega (arith, sh.root_pattern c h)) (eq-eqb (root s c) (root s c) refl) (λ a low high e. sym (eqb-true (root s c) a e))

  entry_picked : (j : ℕ) → j < children s → sum (λ q. pick (is_entry s q j) (f q) 0) 0 (patterns s) ≡ f (child s j)
  unfolding is_entry
  entry_picked j h =
      sum_picked (λ q. is_entry s q j) f 0 (patterns s) (child s j) (omega arith) (omega (arith, sh.child_pattern j h)) (eq-eqb (child s j) (child s j) refl) (λ a low high e. sym (eqb-true (child s j) a e))

  all_stand : at_all s f ≡ at_roots s f + at_entries s f
  all_stand =
      let both_sums = sum_same f (λ q. sum (λ c. pick (is_root s q c) (f q) 0) 0 (clauses s) + sum (λ j. pick (is_entry s q j) (f q) 0) 0 (children s)) 0 (patterns s) (λ q low high. at_pattern q (omega arith)) in
      let apart = sum_add (λ q. sum (λ c. pick (is_root s q c) (f q) 0) 0 (clauses s)) (λ q. sum (λ j. pick (is_entry s q j) (f q) 0) 0 (children s)) 0 (patterns s) in
      let roots = sum_exchange (λ q c. pick (is_root s q c) (f q) 0) 0 (patterns s) 0 (clauses s) ∙ sum_same (λ c. sum (λ q. pick (is_root s q c) (f q) 0) 0 (patterns s)) (λ c. f (root s c)) 0 (clauses s) (λ c low high. root_picked c (omega arith)) in
      let entries = sum_exchange (λ q j. pick (is_entry s q j) (f q) 0) 0 (patterns s) 0 (children s) ∙ sum_same (λ j. sum (λ q. pick (is_entry s q j) (f q) 0) 0 (patterns s)) (λ j. f (child s j)) 0 (children s) (λ j low high. entry_picked j (omega arith)) in
      omega (arith, both_sums, apart, roots, entries)

  -- "each entry is in one pattern's list"
  children_picked : (p : ℕ) → p < patterns s → at_children s f p ≡ sum (λ j. pick (lists s j p) (f (child s j)) 0) 0 (children s)
  unfolding children_first children_count lists sum
  children_picked p h = go (has_children (pattern_kind_of (pattern_kind s p))) refl
    where
      go : (b : Bool) → has_children (pattern_kind_of (pattern_kind s p)) ≡ b
          → sum (λ j. f (child s j)) (pick b (pattern_first s p) 0) (pick b (pattern_count s p) 0)
          ≡ sum (λ j. pick (both b (both (leb (pattern_first s p) j) (ltb j (pattern_first s p + pattern_count s p)))) (f (child s j)) 0) 0 (children s)
      go true e = sym (sum_run (λ j. f (child s j)) (pattern_first s p) (pattern_count s p) (children s) (sh.children_run p h e).inside)
      go false e = sym (sum_none (λ j. 0) 0 (children s) (λ k low high. refl))

  list_picked : (j : ℕ) → j < children s → sum (λ p. pick (lists s j p) (f (child s j)) 0) 0 (patterns s) ≡ f (child s j)
  list_picked j h =
      let o = sh.owner j h in
      sum_picked (lists s j) (λ p. f (child s j)) 0 (patterns s) o.0 (omega arith) (omega (arith, o.1)) (listed_owns s o.0 j o.2)
      (λ a low high e. sh.one_owner a o.0 j (omega arith) o.1 (owns_listed s a j e) o.2)

  all_listed : sum (at_children s f) 0 (patterns s) ≡ at_entries s f
  all_listed =
      sum_same (at_children s f) (λ p. sum (λ j. pick (lists s j p) (f (child s j)) 0) 0 (children s)) 0 (patterns s) (λ p low high. children_picked p (omega arith))
      ∙ sum_exchange (λ p j. pick (lists s j p) (f (child s j)) 0) 0 (patterns s) 0 (children s)
      ∙ sum_same (λ j. sum (λ p. pick (lists s j p) (f (child s j)) 0) 0 (patterns s)) (λ j. f (child s j)) 0 (children s) (λ j low high. list_picked j (omega arith))

-- f grows by w at each pattern over what the next less deep one has at its children: then the roots together have at most w of all
pub roots_most : (s : List ℕ) → Shaped s → (w f g : ℕ → ℕ) → ((p : ℕ) → f p ≡ w p + at_children s g p) → ((p : ℕ) → g p ≤ f p) → at_roots s f ≤ at_all s w
roots_most s sh w f g step grows =
    let whole = sum_same f (λ p. w p + at_children s g p) 0 (patterns s) (λ p low high. step p) ∙ sum_add w (at_children s g) 0 (patterns s) in
    let more = sum_more (λ j. g (child s j)) (λ j. f (child s j)) 0 (children s) (λ j low high. grows (child s j)) in
    omega (arith, whole, more, all_stand s sh f, all_listed s sh g)

-- ---- names
own_most : (s : List ℕ) (p : ℕ) (kind : PatternKind) → length (name_of_kind s p kind) ≤ 1
unfolding name_of_kind
own_most s p Discard = omega arith
own_most s p Variable = omega arith
own_most s p Assign = omega arith
own_most s p Integer = omega arith
own_most s p ByteString = omega arith
own_most s p ListOfAll = omega arith
own_most s p ListWithRest = omega arith
own_most s p Constructor = omega arith
own_most s p Pair = omega arith
own_most s p Tuple = omega arith
own_most s p Unknown = omega arith

length_joined : (f : ℕ → List ℕ) (i n : ℕ) → length (joined f i n) ≡ sum (λ k. length (f k)) i n
unfolding joined sum
length_joined f i zero = refl
length_joined f i (suc n) = length-append (f i) (joined f (i + 1) n) ∙ ap (λ (k : ℕ). length (f i) + k) (length_joined f (i + 1) n)

module _ (s : List ℕ) where
  length_names : (deep p : ℕ) → length (names_to (suc deep) s p) ≡ length (own_name s p) + at_children s (λ q. length (names_to deep s q)) p
  unfolding names_to
  length_names deep p =
      length-append (own_name s p) (joined (λ j. names_to deep s (child s j)) (children_first s p) (children_count s p))
      ∙ ap (λ (k : ℕ). length (own_name s p) + k) (length_joined (λ j. names_to deep s (child s j)) (children_first s p) (children_count s p))

  names_grow : (deep p : ℕ) → length (names_to deep s p) ≤ length (names_to (suc deep) s p)
  unfolding names_to
  names_grow zero p = omega arith
  names_grow (suc deep) p =
      let more = sum_more (λ j. length (names_to deep s (child s j))) (λ j. length (names_to (suc deep) s (child s j))) (children_first s p) (children_count s p) (λ j low high. names_grow deep (child s j)) in
      omega (arith, more, length_names deep p, length_names (suc deep) p)

  pub names_few : Shaped s → Counted s → (c : ℕ) → c < clauses s → length (names_in s (root s c)) ≤ patterns_most
  unfolding names_in own_name
  names_few sh few c h =
      let all = roots_most s sh (λ p. length (own_name s p)) (λ p. length (names_to patterns_most s p)) (λ p. length (names_to (patterns_most - 1) s p)) (length_names (patterns_most - 1)) (names_grow (patterns_most - 1)) in
      let one = sum_part (λ k. length (names_to patterns_most s (root s k))) 0 (clauses s) c (omega arith) (omega arith) in
      let own = sum_most (λ p. length (own_name s p)) 0 (patterns s) (λ p low high. own_most s p (pattern_kind_of (pattern_kind s p))) in
      omega (arith, all, one, own, few.patterns_most_holds)
