-- How long a tree file can be: every case has a node of its own, the table has each path once, and so the counts of refusals 12
-- and 13 with the sheet's limits keep the file under 65,536 bytes (proofs/BoundLaws.antt).
use Rattle.std.specs.Prelude.{◌≡◌, refl, ◌⊎◌, Bool, true, false, List, [], ◌∷◌, ◌++◌, ℕ, suc, ◌+◌, ◌-◌, ◌*◌, ◌≤◌, ◌<◌, length}
use Rattle.std.proofs.Common.{sym, ap, ◌∙◌, inl, inr, ⊎_elim, true≢false, arith}
use Rattle.base_words.specs.Words.{either}
use Rattle.base_words.specs.WordsLaws.{either_true, either_false, either_make_false}
use Rattle.spec_rules.specs.Limits.{patterns_most, depth_most, sheet_most, nodes_most, bindings_most, node_size, case_size, binding_size, path_size, step_size, tree_trailer}
use Rattle.spec_rules.specs.Rows.{Path, same_path}
use Rattle.spec_rules.specs.Building.{Tree, Cases, absent, leaf, hoist, switch, listswitch, cnil, ccons}
use Rattle.spec_rules.specs.Hoisting.{how_many, nodes_in, nodes_in_of}
use Rattle.spec_rules.specs.TreeFile.{is_among, first_uses, paths_used, path_table, cases_in, cases_in_of}
use Rattle.spec_file.specs.PathsLaws.{same_path_sound, same_path_make, is_among_append, is_among_left, is_among_first, is_among_rest, is_among_cases, Covers, first_uses_new, first_uses_known}
use Rattle.spec_file.specs.Writable.{present, Writable, WritableOf, Short}

-- ---- every case has its own child node
at_most : (d : Tree) → (present d ≡ true → cases_in d < nodes_in d) → cases_in d ≤ nodes_in d
unfolding present cases_in nodes_in
at_most absent h = omega arith
at_most (leaf c bs) h = omega arith
at_most (hoist c bs a) h = omega (arith, h refl)
at_most (switch p cs d) h = omega (arith, h refl)
at_most (listswitch p cs ts d) h = omega (arith, h refl)

module _ (pool : List ℕ) where
  mutual
    unfolding present Writable cases_in nodes_in how_many

    pub cases_under_nodes : (a : Tree) → present a ≡ true → Writable pool a → cases_in a < nodes_in a
    cases_under_nodes absent r w = absurd (true≢false (sym r))
    cases_under_nodes (leaf c bs) r w = omega arith
    cases_under_nodes (hoist c bs a) r w = omega (arith, cases_under_nodes a w.1 w.2)
    cases_under_nodes (switch p cs d) r w = omega (arith, cases_under_nodes_of cs w.1, at_most d (λ s. cases_under_nodes d s w.2))
    cases_under_nodes (listswitch p cs ts d) r w =
        omega (arith, cases_under_nodes_of cs w.1, cases_under_nodes_of ts w.2, at_most d (λ s. cases_under_nodes d s w.3))

    pub cases_under_nodes_of : (cs : Cases) → WritableOf pool cs → how_many cs + cases_in_of cs ≤ nodes_in_of cs
    cases_under_nodes_of cnil w = omega arith
    cases_under_nodes_of (ccons t start a cs) w = omega (arith, cases_under_nodes a w.1 w.2, cases_under_nodes_of cs w.3)

-- ---- the table has each path once
unfoldable pub Distinct : List Path → Type 0
Distinct [] = Unit {0}
Distinct (p ∷ ps) = (is_among p ps ≡ false) × Distinct ps

not_among_append : (p : Path) (ps qs : List Path) → is_among p ps ≡ false → is_among p qs ≡ false → is_among p (ps ++ qs) ≡ false
not_among_append p ps qs h g = is_among_append p ps qs ∙ either_make_false (is_among p ps) (is_among p qs) h g

-- a path that is among some is not one that is not
among_apart : (p q : Path) (ps : List Path) → is_among p ps ≡ true → is_among q ps ≡ false → same_path p q ≡ false
among_apart p q ps h g = go (same_path p q) refl
  where
    go : (b : Bool) → same_path p q ≡ b → same_path p q ≡ false
    go true e = absurd (true≢false (sym h ∙ ap (λ (z : Path). is_among z ps) (same_path_sound p q e) ∙ g))
    go false e = e

distinct_end : (ps : List Path) (p : Path) → Distinct ps → is_among p ps ≡ false → Distinct (ps ++ p ∷ [])
unfolding Distinct is_among
distinct_end [] p d h = (refl, tt)
distinct_end (q ∷ ps) p d h =
    let g = either_false (same_path p q) (is_among p ps) h in
    let e : same_path q p ≡ false = among_apart q p (q ∷ ps) (is_among_first q ps) h in
    (not_among_append q ps (p ∷ []) d.0 (either_make_false (same_path q p) false e refl), distinct_end ps p d.1 g.1)

first_uses_distinct : (ps there : List Path) → Distinct there → Distinct (first_uses there ps)
unfolding first_uses
first_uses_distinct [] there d = d
first_uses_distinct (p ∷ ps) there d = go (is_among p there) refl (first_uses_distinct ps there d) (first_uses_distinct ps (there ++ p ∷ []))
  where
    go : (b : Bool) → is_among p there ≡ b → Distinct (first_uses there ps) → (Distinct (there ++ p ∷ []) → Distinct (first_uses (there ++ p ∷ []) ps))
        → Distinct (first_uses there (p ∷ ps))
    go true e known new = rw (first_uses_known there p ps e) known
    go false e known new = rw (first_uses_new there p ps e) (new (distinct_end there p d e))

pub table_distinct : (a : Tree) → Distinct (path_table a)
unfolding path_table Distinct
table_distinct a = first_uses_distinct (paths_used a) [] tt

-- and no other path than those used
first_uses_from : (ps there : List Path) (q : Path) → is_among q (first_uses there ps) ≡ true → (is_among q there ≡ true) ⊎ (is_among q ps ≡ true)
unfolding first_uses
first_uses_from [] there q h = inl h
first_uses_from (p ∷ ps) there q h = go (is_among p there) refl (first_uses_from ps there q) (first_uses_from ps (there ++ p ∷ []) q)
  where
    later : (is_among q there ≡ true) ⊎ (is_among q ps ≡ true) → (is_among q there ≡ true) ⊎ (is_among q (p ∷ ps) ≡ true)
    later (inl x) = inl x
    later (inr x) = inr (is_among_rest q p ps x)

    last : is_among q (there ++ p ∷ []) ≡ true → (is_among q there ≡ true) ⊎ (is_among q (p ∷ ps) ≡ true)
    last x = ⊎_elim inl
        (λ y. ⊎_elim (λ e. inr (ap (λ (x : Path). is_among x (p ∷ ps)) e ∙ is_among_first p ps)) (λ z. inr (is_among_left q (p ∷ []) ps y)) (is_among_cases q p [] y))
        (either_true (is_among q there) (is_among q (p ∷ [])) (sym (is_among_append q there (p ∷ [])) ∙ x))

    go : (b : Bool) → is_among p there ≡ b
        → (is_among q (first_uses there ps) ≡ true → (is_among q there ≡ true) ⊎ (is_among q ps ≡ true))
        → (is_among q (first_uses (there ++ p ∷ []) ps) ≡ true → (is_among q (there ++ p ∷ []) ≡ true) ⊎ (is_among q ps ≡ true))
        → (is_among q there ≡ true) ⊎ (is_among q (p ∷ ps) ≡ true)
    go true e known new = later (known (rw (first_uses_known there p ps e) at h))
    go false e known new = ⊎_elim last (λ x. inr (is_among_rest q p ps x)) (new (rw (first_uses_new there p ps e) at h))

pub table_used : (a : Tree) → Covers (paths_used a) (path_table a)
unfolding path_table is_among
table_used a =
    record { among = λ q h. ⊎_elim (λ x. absurd (true≢false (sym x))) (λ x. x) (first_uses_from (paths_used a) [] q h) }

-- ---- so it is no longer than any list that has the paths used
without : Path → List Path → List Path
without p [] = []
without p (q ∷ qs) = elim (same_path p q) [ true ↦ qs | false ↦ q ∷ without p qs ]

length_without : (p : Path) (qs : List Path) → is_among p qs ≡ true → length qs ≡ suc (length (without p qs))
unfolding without is_among
length_without p [] h = absurd (true≢false (sym h))
length_without p (q ∷ qs) h = go (same_path p q) h (length_without p qs)
  where
    go : (b : Bool) → either b (is_among p qs) ≡ true → (is_among p qs ≡ true → length qs ≡ suc (length (without p qs)))
        → suc (length qs) ≡ suc (length {A = Path} (elim b as (λ x. List Path) [ true ↦ qs | false ↦ q ∷ without p qs ]))
    go true x ih = refl
    go false x ih = ap suc (ih x)

without_keeps : (p r : Path) (qs : List Path) → same_path r p ≡ false → is_among r qs ≡ true → is_among r (without p qs) ≡ true
unfolding without is_among
without_keeps p r [] n h = h
without_keeps p r (q ∷ qs) n h = go (same_path p q) refl (is_among_cases r q qs h) (without_keeps p r qs n)
  where
    go : (b : Bool) → same_path p q ≡ b → (r ≡ q) ⊎ (is_among r qs ≡ true) → (is_among r qs ≡ true → is_among r (without p qs) ≡ true)
        → is_among r (elim b as (λ x. List Path) [ true ↦ qs | false ↦ q ∷ without p qs ]) ≡ true
    go true e (inl x) ih = absurd (true≢false (sym (same_path_make r p (x ∙ sym (same_path_sound p q e))) ∙ n))
    go true e (inr x) ih = x
    go false e (inl x) ih = ap (λ (s : Path). is_among s (q ∷ without p qs)) x ∙ is_among_first q (without p qs)
    go false e (inr x) ih = is_among_rest r q (without p qs) (ih x)

pub distinct_fewer : (ps qs : List Path) → Distinct ps → Covers qs ps → length ps ≤ length qs
unfolding Distinct
distinct_fewer [] qs d v = omega arith
distinct_fewer (p ∷ ps) qs d v =
    let first : is_among p qs ≡ true = v.among p (is_among_first p ps) in
    let rest : Covers (without p qs) ps =
    record { among = λ r h. without_keeps p r qs (among_apart r p ps h d.0) (v.among r (is_among_rest r p ps h)) } in
    omega (arith, length_without p qs first, distinct_fewer ps (without p qs) d.1 rest)

pub table_size : (a : Tree) (all : List Path) → Covers all (paths_used a) → length (path_table a) ≤ length all
table_size a all v =
    distinct_fewer (path_table a) all (table_distinct a) (record { among = λ p h. v.among p ((table_used a).among p h) })

-- ---- the steps of short paths
pub table_short : (a : Tree) → Short (paths_used a) → Short (path_table a)
table_short a s = record { short = λ p h. s.short p ((table_used a).among p h) }

-- ---- the bound: 1,024 nodes, 1,023 cases, 4,096 bindings, 192 paths of at most 11 steps, a pool of at most 8,192 bytes; 58,502 in all
abbrev pub file_most : ℕ
file_most =
    node_size * nodes_most + case_size * (nodes_most - 1) + binding_size * bindings_most + path_size * patterns_most + step_size * ((depth_most - 1) * patterns_most)
    + sheet_most
    + tree_trailer
