-- The tree of an accepted sheet can be written as a file: it is there, its switches' cases are of one kind with texts that are parts of
-- the sheet's pool, a node has at most 192 bindings. Its numbers are words if the sheet is bytes; within 12 and 13 it is small.
use Rattle.std.specs.Prelude.{ℕ, ◌+◌, ◌≤◌, ◌<◌, ◌≡◌, refl, Bool, true, false, ltb, get_or, drop}
use native.Mathlib.Omega.{arith}
use Rattle.std.proofs.Common.{◌∙◌, length-take, ltb-true, ltb-false}
use Rattle.std.proofs.Math.Path.{subst}
use Rattle.std.proofs.Math.Logic.{⊎_elim}
use Rattle.std.proofs.lemmas.Bool.{false≢true}
use mathlib.Core.List.{List, [], ◌∷◌, ◌++◌}
use Rattle.std.proofs.Math.ListN.{length, get_or-eq_default}
use Rattle.base_words.specs.Words.{Bytes as AllBytes, text_at}
use Rattle.base_words.specs.WordsLaws.{length_text_at, get_or_text_at}
use Rattle.spec_rules.specs.Limits.{nodes_most, bindings_most, sheet_most}
use Rattle.spec_rules.specs.SheetFile.{clauses, patterns, pool_at, pool_size, pool_text, pool, subject}
use Rattle.spec_rules.specs.Rows.{Path, Binding}
use Rattle.spec_rules.specs.Splitting.{Test, Constr, Int, Bytes, ListOf, ListWithTail}
use Rattle.spec_rules.specs.SplittingLaws.{All}
use Rattle.spec_rules.specs.Building.{Tree, Cases, absent, leaf, hoist, switch, listswitch, cnil, ccons}
use Rattle.spec_rules.specs.Hoisting.{how_many, whole_tree, nodes_in, bindings_in, bindings_in_of}
use Rattle.spec_rules.specs.TreeFile.{binding_paths, paths_used, paths_used_of, is_among, path_table}
use Rattle.spec_rules.specs.Calls.{sheet_patterns, sheet_tree}
use Rattle.spec_accepted.specs.SheetFacts.{text_inside, Accepted}
use Rattle.spec_file.specs.Writable.{present, AllOfKind, SwitchCases, Writable, WritableOf, SmallNames, SmallTest, SmallNumbers, SmallNumbersOf, InWords, Bounded}
use Rattle.spec_file.specs.PathsLaws.{is_among_cases}
use Rattle.spec_file.specs.BoundLaws.{table_size}
use Rattle.spec_hoist.specs.Trees.{unhoisted, unhoisted_of, is_present, WellMade, WellMadeOf, EachHoist, EachHoistOf}
use Rattle.spec_hoist.specs.WholeTreeLaws.{whole_tree_made, whole_tree_present}
use Rattle.spec_match.specs.Lists.{all_append}
use Rattle.spec_match.specs.Leaves.{AllLeaves, AllLeavesOf}
use Rattle.spec_match.specs.SheetColumns.{sheet_resolved}
use Rattle.spec_theorems.specs.Stands.{Used, sheet_paths, length_sheet_paths, used_among, used_short, name_small, used_small}
use Rattle.spec_theorems.specs.SheetPatterns.{FieldA}
use Rattle.spec_theorems.proofs.SheetPatterns.{sheet_everywhere}
use Rattle.spec_theorems.specs.Formed.{OneKind, Formed, FormedOf, NumberOf, CaseOf, plain_formed}
use Rattle.spec_theorems.specs.SheetLeaves.{whole_unhoisted, length_sheet_patterns, BindingOf, LeafFine}
use Rattle.spec_theorems.proofs.SheetLeaves.{leaves_fine, hoists_fine}

-- ---- the pool of a sheet of bytes is bytes
pub pool_bytes : (s : List ℕ) → AllBytes s → AllBytes (pool s)
unfolding pool pool_text
pool_bytes s bytes = record { byte = each }
  where
    each : (i : ℕ) → get_or (text_at s (pool_at s + 0) (pool_size s)) i 0 < 256
    each i = go (ltb i (pool_size s)) refl
      where
        go : (b : Bool) → ltb i (pool_size s) ≡ b → get_or (text_at s (pool_at s + 0) (pool_size s)) i 0 < 256
        go true e = rw (get_or_text_at s (pool_at s + 0) (pool_size s) i 0 (ltb-true i (pool_size s) e)) (bytes.byte (pool_at s + 0 + i))
        go false e =
            rw (get_or-eq_default (text_at s (pool_at s + 0) (pool_size s)) 0 {n = i} (omega (arith, ltb-false i (pool_size s) e, length-take (pool_size s) (drop (pool_at s + 0) s))))
            (omega arith)

-- ---- hoisting keeps a tree formed
kind_unhoisted : (k : ℕ) (cs : Cases) → AllOfKind k (unhoisted_of cs) → AllOfKind k cs
unfolding AllOfKind unhoisted
kind_unhoisted k cnil h = tt
kind_unhoisted k (ccons t start a cs) h = (h.0, kind_unhoisted k cs h.1)

module _ (N : Path → Type 0) (C : ℕ → Test → Type 0) where
  mutual
    unfolding Formed unhoisted OneKind

    formed_unhoisted : (a : Tree) → Formed N C (unhoisted a) → Formed N C a
    formed_unhoisted absent h = tt
    formed_unhoisted (leaf c bs) h = tt
    formed_unhoisted (hoist c bs a) h = formed_unhoisted a h
    formed_unhoisted (switch p cs d) (n, (k, most, kind), f, g) = (n, (k, most, kind_unhoisted k cs kind), formed_of_unhoisted cs f, formed_unhoisted d g)
    formed_unhoisted (listswitch p cs ts d) (n, exact, tailed, f, e, g) =
        (n, kind_unhoisted 3 cs exact, kind_unhoisted 4 ts tailed, formed_of_unhoisted cs f, formed_of_unhoisted ts e, formed_unhoisted d g)

    formed_of_unhoisted : (cs : Cases) → FormedOf N C (unhoisted_of cs) → FormedOf N C cs
    formed_of_unhoisted cnil h = tt
    formed_of_unhoisted (ccons t start a cs) h = (h.0, formed_unhoisted a h.1, formed_of_unhoisted cs h.2)

present_is : (a : Tree) → present a ≡ is_present a
unfolding present is_present
present_is absent = refl
present_is (leaf c bs) = refl
present_is (hoist c bs a) = refl
present_is (switch p cs d) = refl
present_is (listswitch p cs ts d) = refl

switch_cases : (cs : Cases) → 0 < how_many cs → OneKind cs → SwitchCases cs
unfolding how_many OneKind SwitchCases AllOfKind
switch_cases cnil l h = absurd (omega arith)
switch_cases (ccons t start a cs) l (k, most, kinds) = (omega (arith, kinds.0), rw kinds.0 kinds.1)

module _ (s : List ℕ) (a : Accepted s) where
  pub sheet_formed : Formed (Used s) (CaseOf s) (sheet_tree s)
  unfolding sheet_tree
  sheet_formed =
      formed_unhoisted (Used s) (CaseOf s) (whole_tree (sheet_patterns s))
      (rw (whole_unhoisted (sheet_patterns s)) (plain_formed s (subject s) (sheet_patterns s) (sheet_resolved s a) (sheet_everywhere s a)))

  sheet_made : WellMade (clauses s) (sheet_tree s)
  unfolding sheet_tree
  sheet_made = subst (λ n. WellMade n (sheet_tree s)) (length_sheet_patterns s) (whole_tree_made (sheet_patterns s))

  -- THEOREM: there is a tree
  pub sheet_present : present (sheet_tree s) ≡ true
  unfolding sheet_tree
  sheet_present =
      present_is (whole_tree (sheet_patterns s)) ∙ whole_tree_present (sheet_patterns s) (omega (arith, length_sheet_patterns s, a.is_counted.some_clause))

  -- ---- writable
  mutual
    unfolding Writable WellMade Formed CaseOf AllLeaves EachHoist

    writable : (n : ℕ) (x : Tree) → WellMade n x → Formed (Used s) (CaseOf s) x → AllLeaves (LeafFine s a) x → EachHoist (LeafFine s a) x → Writable (pool s) x
    writable n absent m f l h = tt
    writable n (leaf c bs) m f l h = l.few
    writable n (hoist c bs x) m f l h = (h.0.few, present_is x ∙ m.1, writable n x m.2 f l h.1)
    writable n (switch p cs d) m f l h =
        (switch_cases cs m.0 f.1, writable_of n cs m.1 f.2 l.0 h.0, writable n d m.2 f.3 l.1 h.1)
    writable n (listswitch p cs ts d) m f l h = (
      record { some_case = m.0; exact = f.1; tailed = f.2 },
      writable_of n cs m.1 f.3 l.0 h.0,
      writable_of n ts m.2 f.4 l.1 h.1,
      writable n d m.3 f.5 l.2 h.2,
    )

    writable_of : (n : ℕ) (cs : Cases) → WellMadeOf n cs → FormedOf (Used s) (CaseOf s) cs → AllLeavesOf (LeafFine s a) cs → EachHoistOf (LeafFine s a) cs
        → WritableOf (pool s) cs
    writable_of n cnil m f l h = tt
    writable_of n (ccons t start x cs) m f l h =
        (f.0.0, present_is x ∙ m.0, writable n x m.1 f.1 l.0 h.0, writable_of n cs m.2 f.2 l.1 h.1)

  -- THEOREM: it can be written
  pub sheet_writable : Writable (pool s) (sheet_tree s)
  sheet_writable = writable (clauses s) (sheet_tree s) sheet_made sheet_formed (leaves_fine s a) (hoists_fine s a)

  -- ---- its bindings and its paths
  mutual
    unfolding bindings_in AllLeaves EachHoist

    bindings_in_lem : (x : Tree) → AllLeaves (LeafFine s a) x → EachHoist (LeafFine s a) x → All (BindingOf s) (bindings_in x)
    bindings_in_lem absent l h = tt
    bindings_in_lem (leaf c bs) l h = l.each
    bindings_in_lem (hoist c bs x) l h = all_append (BindingOf s) bs (bindings_in x) h.0.each (bindings_in_lem x l h.1)
    bindings_in_lem (switch p cs d) l h = all_append (BindingOf s) (bindings_in_of cs) (bindings_in d) (bindings_in_of_lem cs l.0 h.0) (bindings_in_lem d l.1 h.1)
    bindings_in_lem (listswitch p cs ts d) l h =
        all_append (BindingOf s) (bindings_in_of cs) (bindings_in_of ts ++ bindings_in d) (bindings_in_of_lem cs l.0 h.0)
        (all_append (BindingOf s) (bindings_in_of ts) (bindings_in d) (bindings_in_of_lem ts l.1 h.1) (bindings_in_lem d l.2 h.2))

    bindings_in_of_lem : (cs : Cases) → AllLeavesOf (LeafFine s a) cs → EachHoistOf (LeafFine s a) cs → All (BindingOf s) (bindings_in_of cs)
    bindings_in_of_lem cnil l h = tt
    bindings_in_of_lem (ccons t start x cs) l h = all_append (BindingOf s) (bindings_in x) (bindings_in_of cs) (bindings_in_lem x l.0 h.0) (bindings_in_of_lem cs l.1 h.1)

  binding_paths_lem : (bs : List Binding) → All (BindingOf s) bs → All (Used s) (binding_paths bs)
  unfolding binding_paths
  binding_paths_lem [] h = tt
  binding_paths_lem (b ∷ bs) h = (h.0.its_path, binding_paths_lem bs h.1)

  mutual
    unfolding paths_used AllLeaves EachHoist Formed

    paths_in : (x : Tree) → Formed (Used s) (CaseOf s) x → AllLeaves (LeafFine s a) x → EachHoist (LeafFine s a) x → All (Used s) (paths_used x)
    paths_in absent f l h = tt
    paths_in (leaf c bs) f l h = binding_paths_lem bs l.each
    paths_in (hoist c bs x) f l h = all_append (Used s) (binding_paths bs) (paths_used x) (binding_paths_lem bs h.0.each) (paths_in x f l h.1)
    paths_in (switch p cs d) f l h =
        (f.0, all_append (Used s) (paths_used_of cs) (paths_used d) (paths_in_of cs f.2 l.0 h.0) (paths_in d f.3 l.1 h.1))
    paths_in (listswitch p cs ts d) f l h = (
      f.0,
      all_append (Used s) (paths_used_of cs) (paths_used_of ts ++ paths_used d) (paths_in_of cs f.3 l.0 h.0)
          (all_append (Used s) (paths_used_of ts) (paths_used d) (paths_in_of ts f.4 l.1 h.1) (paths_in d f.5 l.2 h.2)),
    )

    paths_in_of : (cs : Cases) → FormedOf (Used s) (CaseOf s) cs → AllLeavesOf (LeafFine s a) cs → EachHoistOf (LeafFine s a) cs → All (Used s) (paths_used_of cs)
    paths_in_of cnil f l h = tt
    paths_in_of (ccons t start x cs) f l h =
        all_append (Used s) (paths_used x) (paths_used_of cs) (paths_in x f.1 l.0 h.0) (paths_in_of cs f.2 l.1 h.1)

  among_used : (ps : List Path) → All (Used s) ps → (p : Path) → is_among p ps ≡ true → Used s p
  unfolding is_among
  among_used [] h p e = absurd (false≢true e)
  among_used (q ∷ ps) h p e = ⊎_elim (λ f. rw f h.0) (λ f. among_used ps h.1 p f) (is_among_cases p q ps e)

  -- THEOREM: a pattern of the sheet stands at each path that the tree uses
  pub sheet_used : (p : Path) → is_among p (paths_used (sheet_tree s)) ≡ true → Used s p
  sheet_used = among_used (paths_used (sheet_tree s)) (paths_in (sheet_tree s) sheet_formed (leaves_fine s a) (hoists_fine s a))

  -- ---- in words
  module _ (bytes : AllBytes s) where
    field_small : (x : ℕ) → FieldA s x → x < 65536
    field_small x f = rw f.is (name_small s bytes f.number)

    test_small : (t : Test) → NumberOf s t → SmallTest t
    unfolding NumberOf SmallTest
    test_small (Constr x) h = field_small x h
    test_small (Int w) h = tt
    test_small (Bytes w) h = tt
    test_small (ListOf n) h = omega arith
    test_small (ListWithTail n) h = omega arith

    mutual
      unfolding SmallNumbers WellMade Formed CaseOf

      numbers_small : (n : ℕ) → n ≤ 65536 → (x : Tree) → WellMade n x → Formed (Used s) (CaseOf s) x → SmallNumbers x
      numbers_small n l absent m f = tt
      numbers_small n l (leaf c bs) m f = omega arith
      numbers_small n l (hoist c bs x) m f = (omega (arith, m.0), numbers_small n l x m.2 f)
      numbers_small n l (switch p cs d) m f = (numbers_small_of n l cs m.1 f.2, numbers_small n l d m.2 f.3)
      numbers_small n l (listswitch p cs ts d) m f =
          (numbers_small_of n l cs m.1 f.3, numbers_small_of n l ts m.2 f.4, numbers_small n l d m.3 f.5)

      numbers_small_of : (n : ℕ) → n ≤ 65536 → (cs : Cases) → WellMadeOf n cs → FormedOf (Used s) (CaseOf s) cs → SmallNumbersOf cs
      numbers_small_of n l cnil m f = tt
      numbers_small_of n l (ccons t start x cs) m f = (test_small t f.0.1, numbers_small n l x m.1 f.1, numbers_small_of n l cs m.2 f.2)

    names_small : (bs : List Binding) → All (BindingOf s) bs → SmallNames bs
    unfolding SmallNames
    names_small [] h = tt
    names_small (b ∷ bs) h = (field_small b.name h.0.its_name, names_small bs h.1)

    -- THEOREM: its numbers are words
    pub sheet_in_words : InWords (sheet_tree s)
    sheet_in_words = record {
      numbers = numbers_small (clauses s) (omega (arith, a.is_counted.clauses_most_holds)) (sheet_tree s) sheet_made sheet_formed;
      names = names_small (bindings_in (sheet_tree s)) (bindings_in_lem (sheet_tree s) (leaves_fine s a) (hoists_fine s a));
      paths = λ p e. used_small s bytes p (sheet_used p e);
    }

  -- ---- its size
  pool_most : length (pool s) ≤ sheet_most
  unfolding pool pool_text
  pool_most =
      let inside : pool_at s + 0 + pool_size s ≤ length s = omega (arith, text_inside a.is_laid 0 (pool_size s) (omega arith)) in
      omega (arith, length_text_at s (pool_at s + 0) (pool_size s) inside, a.is_laid.length_most)

  pub paths_most : length (path_table (sheet_tree s)) ≤ patterns s
  paths_most =
      omega (
        arith,
        length_sheet_paths s a.is_shaped,
        table_size (sheet_tree s) (sheet_paths s a.is_shaped) (record { among = λ p e. used_among s a.is_shaped p (sheet_used p e) }),
      )

  -- THEOREM: within 12 and 13 it is small
  pub sheet_bounded : nodes_in (sheet_tree s) ≤ nodes_most → length (bindings_in (sheet_tree s)) ≤ bindings_most → Bounded (pool s) (sheet_tree s)
  sheet_bounded nodes bindings = record {
    nodes_most_holds = nodes;
    bindings_most_holds = bindings;
    paths_most = omega (arith, paths_most, a.is_counted.patterns_most_holds);
    paths_short = record { short = λ p e. used_short s a p (sheet_used p e) };
    pool_most = pool_most;
  }
