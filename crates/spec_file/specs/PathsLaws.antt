-- Equal paths: the comparison by fields is equality; a path's number in a table finds that path, and a tree's table has each path
-- that the tree uses. Rests on the definitions of steps, of the path table, and of reading a step.
use Rattle.std.specs.Prelude.{◌≡◌, refl, ◌⊎◌, Bool, true, false, List, [], ◌∷◌, ◌++◌, ℕ, suc, ◌<◌, length, get_or}
use Rattle.std.proofs.Common.{sym, ap, ◌∙◌, inl, inr, ⊎_elim, true≢false, arith}
use Rattle.base_words.specs.Words.{either}
use Rattle.base_words.specs.WordsLaws.{both_true, both_make, either_true, either_first_true, either_second_true, same_text_refl, same_text_sound}
use Rattle.spec_rules.specs.Rows.{Step, pair, tuple, constr, list, listtail, Path, bit, step_fields, same_step, same_path, Binding}
use Rattle.spec_rules.specs.Building.{Tree, Cases, absent, leaf, hoist, switch, listswitch, cnil, ccons}
use Rattle.spec_rules.specs.Hoisting.{bindings_in, bindings_in_of}
use Rattle.spec_rules.specs.TreeFile.{binding_paths, paths_used, paths_used_of, is_among, first_uses, path_number}
use Rattle.spec_rules.specs.TreeReader.{step_of_fields}

-- ---- steps and paths
-- the step with these fields
unfoldable pub step_of : List ℕ → Step
unfolding step_of_fields
step_of fields = step_of_fields (get_or fields 0 0) (get_or fields 1 0) (get_or fields 2 0) (get_or fields 3 0)

pub step_of_step_fields : (s : Step) → step_of (step_fields s) ≡ s
unfolding step_of step_of_fields step_fields bit
step_of_step_fields (pair i t) = refl
step_of_step_fields (tuple i t) = refl
step_of_step_fields (constr i true t) = refl
step_of_step_fields (constr i false t) = refl
step_of_step_fields (list i t) = refl
step_of_step_fields (listtail i t) = refl

pub step_fields_same : (s t : Step) → step_fields s ≡ step_fields t → s ≡ t
step_fields_same s t e = sym (step_of_step_fields s) ∙ ap step_of e ∙ step_of_step_fields t

pub same_step_refl : (s : Step) → same_step s s ≡ true
unfolding same_step
same_step_refl s = same_text_refl (step_fields s)

pub same_step_sound : (s t : Step) → same_step s t ≡ true → s ≡ t
unfolding same_step
same_step_sound s t h = step_fields_same s t (same_text_sound (step_fields s) (step_fields t) h)

pub same_path_refl : (p : Path) → same_path p p ≡ true
unfolding same_path
same_path_refl [] = refl
same_path_refl (s ∷ ss) = both_make (same_step s s) (same_path ss ss) (same_step_refl s) (same_path_refl ss)

pub same_path_sound : (p q : Path) → same_path p q ≡ true → p ≡ q
unfolding same_path
same_path_sound [] [] h = refl
same_path_sound [] (t ∷ ts) h = cc
same_path_sound (s ∷ ss) [] h = cc
same_path_sound (s ∷ ss) (t ∷ ts) h =
    let b = both_true (same_step s t) (same_path ss ts) h in
    let e : s ≡ t = same_step_sound s t b.0 in
    let f : ss ≡ ts = same_path_sound ss ts b.1 in
    cc

pub same_path_make : (p q : Path) → p ≡ q → same_path p q ≡ true
same_path_make p q e = rw e (same_path_refl q)

-- ---- a path among paths
pub is_among_append : (p : Path) (ps qs : List Path) → is_among p (ps ++ qs) ≡ either (is_among p ps) (is_among p qs)
unfolding is_among
is_among_append p [] qs = refl
is_among_append p (q ∷ ps) qs = go (same_path p q) (is_among_append p ps qs)
  where
    go : (b : Bool) → is_among p (ps ++ qs) ≡ either (is_among p ps) (is_among p qs)
        → either b (is_among p (ps ++ qs)) ≡ either (either b (is_among p ps)) (is_among p qs)
    go true ih = refl
    go false ih = ih

pub is_among_left : (p : Path) (ps qs : List Path) → is_among p ps ≡ true → is_among p (ps ++ qs) ≡ true
is_among_left p ps qs h = is_among_append p ps qs ∙ either_first_true (is_among p ps) (is_among p qs) h

pub is_among_right : (p : Path) (ps qs : List Path) → is_among p qs ≡ true → is_among p (ps ++ qs) ≡ true
is_among_right p ps qs h = is_among_append p ps qs ∙ either_second_true (is_among p ps) (is_among p qs) h

pub is_among_first : (p : Path) (qs : List Path) → is_among p (p ∷ qs) ≡ true
unfolding is_among
is_among_first p qs = either_first_true (same_path p p) (is_among p qs) (same_path_refl p)

pub is_among_rest : (p q : Path) (qs : List Path) → is_among p qs ≡ true → is_among p (q ∷ qs) ≡ true
unfolding is_among
is_among_rest p q qs h = either_second_true (same_path p q) (is_among p qs) h

pub is_among_cases : (p q : Path) (qs : List Path) → is_among p (q ∷ qs) ≡ true → (p ≡ q) ⊎ (is_among p qs ≡ true)
unfolding is_among
is_among_cases p q qs h = ⊎_elim (λ e. inl (same_path_sound p q e)) (λ e. inr e) (either_true (same_path p q) (is_among p qs) h)

-- every one of ps is in the table
pub record Covers (table ps : List Path) : Type 0 where
  pub among : (p : Path) → is_among p ps ≡ true → is_among p table ≡ true

pub covers_left : (table ps qs : List Path) → Covers table (ps ++ qs) → Covers table ps
covers_left table ps qs v = record { among = λ p h. v.among p (is_among_left p ps qs h) }

pub covers_right : (table ps qs : List Path) → Covers table (ps ++ qs) → Covers table qs
covers_right table ps qs v = record { among = λ p h. v.among p (is_among_right p ps qs h) }

pub covers_first : (table : List Path) (p : Path) (qs : List Path) → Covers table (p ∷ qs) → is_among p table ≡ true
covers_first table p qs v = v.among p (is_among_first p qs)

pub covers_rest : (table : List Path) (p : Path) (qs : List Path) → Covers table (p ∷ qs) → Covers table qs
covers_rest table p qs v = record { among = λ q h. v.among q (is_among_rest q p qs h) }

pub covers_append : (table ps qs : List Path) → Covers table ps → Covers table qs → Covers table (ps ++ qs)
covers_append table ps qs v w =
    record {
      among = λ p h. ⊎_elim (λ e. v.among p e) (λ e. w.among p e) (either_true (is_among p ps) (is_among p qs) (sym (is_among_append p ps qs) ∙ h));
    }

pub covers_nil : (table : List Path) → Covers table []
unfolding is_among
covers_nil table = record { among = λ q h. absurd (true≢false (sym h)) }

pub covers_cons : (table : List Path) (p : Path) (ps : List Path) → is_among p table ≡ true → Covers table ps → Covers table (p ∷ ps)
covers_cons table p ps first rest =
    record { among = λ q h. ⊎_elim (λ e. rw e first) (λ e. rest.among q e) (is_among_cases q p ps h) }

-- ---- a path's number
pub path_number_first : (q : Path) (qs : List Path) (p : Path) → same_path p q ≡ true → path_number (q ∷ qs) p ≡ 0
unfolding path_number
path_number_first q qs p e = rw (path_number, e)

pub path_number_rest : (q : Path) (qs : List Path) (p : Path) → same_path p q ≡ false → path_number (q ∷ qs) p ≡ suc (path_number qs p)
unfolding path_number
path_number_rest q qs p e = rw (path_number, e)

-- the table has the path at its number
pub record Numbered (table : List Path) (p : Path) : Type 0 where
  pub inside : path_number table p < length table
  pub found : get_or table (path_number table p) [] ≡ p

pub path_numbered : (table : List Path) (p : Path) → is_among p table ≡ true → Numbered table p
unfolding is_among
path_numbered [] p h = absurd (true≢false (sym h))
path_numbered (q ∷ qs) p h = go (same_path p q) refl h (path_numbered qs p)
  where
    go : (b : Bool) → same_path p q ≡ b → either b (is_among p qs) ≡ true → (is_among p qs ≡ true → Numbered qs p) → Numbered (q ∷ qs) p
    go true e x ih = record {
      inside = rw (path_number_first q qs p e) (omega arith);
      found = rw (path_number_first q qs p e) (sym (same_path_sound p q e));
    }
    go false e x ih =
        let n = ih x in
        record {
          inside = rw (path_number_rest q qs p e) (omega (arith, n.inside));
          found = rw (path_number_rest q qs p e) n.found;
        }

-- ---- the table of the paths used
pub first_uses_new : (there : List Path) (p : Path) (ps : List Path) → is_among p there ≡ false → first_uses there (p ∷ ps) ≡ first_uses (there ++ p ∷ []) ps
unfolding first_uses
first_uses_new there p ps e = rw (first_uses, e)

pub first_uses_known : (there : List Path) (p : Path) (ps : List Path) → is_among p there ≡ true → first_uses there (p ∷ ps) ≡ first_uses there ps
unfolding first_uses
first_uses_known there p ps e = rw (first_uses, e)

first_uses_keeps : (ps there : List Path) (q : Path) → is_among q there ≡ true → is_among q (first_uses there ps) ≡ true
unfolding first_uses
first_uses_keeps [] there q h = h
first_uses_keeps (p ∷ ps) there q h =
    go (is_among p there) refl (first_uses_keeps ps there q h) (first_uses_keeps ps (there ++ p ∷ []) q (is_among_left q there (p ∷ []) h))
  where
    go : (b : Bool) → is_among p there ≡ b → is_among q (first_uses there ps) ≡ true → is_among q (first_uses (there ++ p ∷ []) ps) ≡ true
        → is_among q (first_uses there (p ∷ ps)) ≡ true
    go true e known new = rw (first_uses_known there p ps e) known
    go false e known new = rw (first_uses_new there p ps e) new

first_uses_covers : (ps there : List Path) → Covers (first_uses there ps) ps
first_uses_covers [] there = covers_nil (first_uses there [])
first_uses_covers (p ∷ ps) there = go (is_among p there) refl (first_uses_covers ps there) (first_uses_covers ps (there ++ p ∷ []))
  where
    go : (b : Bool) → is_among p there ≡ b → Covers (first_uses there ps) ps → Covers (first_uses (there ++ p ∷ []) ps) ps
        → Covers (first_uses there (p ∷ ps)) (p ∷ ps)
    go true e known new =
        rw (first_uses_known there p ps e) (covers_cons (first_uses there ps) p ps (first_uses_keeps ps there p e) known)
    go false e known new =
        rw (first_uses_new there p ps e)
        (covers_cons (first_uses (there ++ p ∷ []) ps) p ps (first_uses_keeps ps (there ++ p ∷ []) p (is_among_right p there (p ∷ []) (is_among_first p []))) new)

pub table_covers : (ps : List Path) → Covers (first_uses [] ps) ps
table_covers ps = first_uses_covers ps []

-- ---- the paths of a tree's bindings are used by the tree
binding_paths_append : (xs ys : List Binding) → binding_paths (xs ++ ys) ≡ binding_paths xs ++ binding_paths ys
unfolding binding_paths
binding_paths_append [] ys = refl
binding_paths_append (x ∷ xs) ys = rw (binding_paths_append xs ys)

module _ (table : List Path) where
  -- of two parts: the paths used in each cover the bindings of each
  both_cover : (xs ys : List Binding) → Covers table (binding_paths xs) → Covers table (binding_paths ys) → Covers table (binding_paths (xs ++ ys))
  both_cover xs ys v w = rw (binding_paths_append xs ys) (covers_append table (binding_paths xs) (binding_paths ys) v w)

  mutual
    unfolding paths_used bindings_in

    pub bindings_covered : (a : Tree) → Covers table (paths_used a) → Covers table (binding_paths (bindings_in a))
    bindings_covered absent v = v
    bindings_covered (leaf c bs) v = v
    bindings_covered (hoist c bs a) v =
        both_cover bs (bindings_in a) (covers_left table (binding_paths bs) (paths_used a) v)
        (bindings_covered a (covers_right table (binding_paths bs) (paths_used a) v))
    bindings_covered (switch p cs d) v =
        let w = covers_rest table p (paths_used_of cs ++ paths_used d) v in
        both_cover (bindings_in_of cs) (bindings_in d) (bindings_covered_of cs (covers_left table (paths_used_of cs) (paths_used d) w))
        (bindings_covered d (covers_right table (paths_used_of cs) (paths_used d) w))
    bindings_covered (listswitch p cs ts d) v =
        let w = covers_rest table p (paths_used_of cs ++ (paths_used_of ts ++ paths_used d)) v in
        let x = covers_right table (paths_used_of cs) (paths_used_of ts ++ paths_used d) w in
        both_cover (bindings_in_of cs) (bindings_in_of ts ++ bindings_in d)
        (bindings_covered_of cs (covers_left table (paths_used_of cs) (paths_used_of ts ++ paths_used d) w))
        (both_cover (bindings_in_of ts) (bindings_in d) (bindings_covered_of ts (covers_left table (paths_used_of ts) (paths_used d) x))
        (bindings_covered d (covers_right table (paths_used_of ts) (paths_used d) x)))

    pub bindings_covered_of : (cs : Cases) → Covers table (paths_used_of cs) → Covers table (binding_paths (bindings_in_of cs))
    bindings_covered_of cnil v = v
    bindings_covered_of (ccons t start a cs) v =
        both_cover (bindings_in a) (bindings_in_of cs) (bindings_covered a (covers_left table (paths_used a) (paths_used_of cs) v))
        (bindings_covered_of cs (covers_right table (paths_used a) (paths_used_of cs) v))
