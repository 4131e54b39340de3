-- An accepted sheet: its patterns have the texts that a panel may have, its tree is `Tested`, and every value of the subject's type has the
-- columns of the root. So some value falls out of a switch exactly if each branch on the way there can be taken (`only_goes`,
-- `goes_out_there` of proofs/SheetTested.antt). Said of every well-made tree that is the sheet's once its hoists are taken out; `sheet_tree` is one.
use Prim.Native.Nat.{ℕ, zero, suc, ◌+◌, ◌-◌, ◌≤◌, ◌<◌}
use Rattle.std.proofs.Common.{le_refl, le-leb}
use native.Mathlib.Omega.{arith}
use Rattle.std.specs.Prelude.{◌≡◌, Bool, List, [], ◌∷◌, get_or, take, drop, leb}
use Rattle.std.proofs.Math.Path.{refl, ap}
use Rattle.std.proofs.Math.Bool.{true, false}
use Rattle.std.proofs.Math.ListN.{length}
use Rattle.base_words.specs.Words.{Bytes}
use Rattle.base_words.specs.WordsLaws.{both_true, both_make}
use Rattle.spec_rules.specs.Limits.{patterns_most}
use Rattle.spec_rules.specs.SheetFile.{subject, clauses, patterns, type_first, constructor_first, entry, pattern_kind, pattern_a, pattern_first, pattern_count, child, root, pool_text, pool_at}
use Rattle.spec_rules.specs.Patterns.{PatternKind, Discard, Variable, Assign, Integer, ByteString, ListOfAll, ListWithRest, Constructor, Pair, Tuple, Unknown, pattern_kind_of, Mark, Pat, Pats, one_constructor, decorated, constructor_of, along, of_constructor, of_kind, pattern_to, pattern, clause_pattern, clause_patterns}
use Rattle.spec_rules.specs.Rows.{Path, clause_rows}
use Rattle.spec_rules.specs.Columns.{columns}
use Rattle.spec_rules.specs.SheetRefusals.{has_children}
use Rattle.spec_rules.specs.Building.{Tree, plain_tree}
use Rattle.spec_rules.specs.Calls.{sheet_patterns, sheet_tree}
use Rattle.spec_rules.specs.SplittingLaws.{All}
use Rattle.spec_accepted.specs.KindsLaws.{pattern_byte}
use Rattle.spec_accepted.specs.SheetFacts.{Parent, Shaped, owned_pattern, Accepted}
use Rattle.spec_hoist.specs.Trees.{is_present, WellMade, unhoisted}
use Rattle.spec_hoist.specs.WholeTreeLaws.{whole_tree_made, whole_tree_present}
use Rattle.spec_match.specs.Lists.{all_map}
use Rattle.spec_match.specs.ColumnTypes.{type_after}
use Rattle.spec_match.specs.SheetColumns.{sheet_resolved}
use Rattle.spec_theorems.specs.SheetLeaves.{whole_unhoisted, length_sheet_patterns}
use Rattle.spec_forgotten.specs.Values.{Value, are_bytes, of_type}
use Rattle.spec_forgotten.specs.OpenedParts.{legal_there}
use Rattle.spec_forgotten.specs.MatrixLaws.{texts_fit, texts_fit_all, Kept, Open, root_columns_lem}
use Rattle.spec_forgotten.specs.FallingLaws.{There, Has}

-- a well-made tree that is the sheet's once its hoists are taken out
pub record OfSheet (s : List ℕ) (b : Tree) : Type 0 where
  pub same : unhoisted b ≡ plain_tree (sheet_patterns s)
  pub most : ℕ
  pub made : WellMade most b
  pub there : is_present b ≡ true

-- ---- texts of bytes
pub bytes_are : (l : List ℕ) → ((i : ℕ) → get_or l i 0 < 256) → are_bytes l ≡ true
unfolding are_bytes
bytes_are [] h = refl
bytes_are (b ∷ bs) h = both_make (leb b 255) (are_bytes bs) (le-leb b 255 (omega (arith, h 0))) (bytes_are bs (λ i. h (suc i)))

pub bytes_drop : (n : ℕ) (l : List ℕ) → are_bytes l ≡ true → are_bytes (drop n l) ≡ true
unfolding are_bytes
bytes_drop zero l h = h
bytes_drop (suc n) [] h = refl
bytes_drop (suc n) (b ∷ bs) h = bytes_drop n bs (both_true (leb b 255) (are_bytes bs) h).1

pub bytes_take : (n : ℕ) (l : List ℕ) → are_bytes l ≡ true → are_bytes (take n l) ≡ true
unfolding are_bytes
bytes_take zero l h = refl
bytes_take (suc n) [] h = refl
bytes_take (suc n) (b ∷ bs) h = let (x, y) = both_true (leb b 255) (are_bytes bs) h in both_make (leb b 255) (are_bytes (take n bs)) x (bytes_take n bs y)

module _ (s : List ℕ) (a : Accepted s) (bytes : Bytes s) where
  sh : Shaped s
  sh = a.is_shaped

  pool_bytes : (first count : ℕ) → are_bytes (pool_text s first count) ≡ true
  unfolding pool_text
  pool_bytes first count = bytes_take count (drop (pool_at s + first) s) (bytes_drop (pool_at s + first) s (bytes_are s bytes.byte))

  -- ---- the texts of a pattern
  abbrev KnownFrom : ℕ → ℕ → Type 0
  KnownFrom j n = (k : ℕ) → k < n → child s (j + k) < patterns s

  along_texts : (f : ℕ → ℕ → Pat) → ((p t : ℕ) → p < patterns s → texts_fit (f p t) ≡ true) → (j n e step : ℕ) → KnownFrom j n → texts_fit_all (along f s j n e step) ≡ true
  unfolding along texts_fit
  along_texts f each j zero e step known = refl
  along_texts f each j (suc n) e step known =
      let x : j + 0 ≡ j = omega arith in
      both_make (texts_fit (f (child s j) (entry s e))) (texts_fit_all (along f s (j + 1) n (e + step) step))
      (each (child s j) (entry s e) (rw x at (known 0 (omega arith))))
      (along_texts f each (j + 1) n (e + step) step (λ k l. rw (next j k) (known (suc k) (omega arith))))
    where
      next : (i k : ℕ) → i + 1 + k ≡ i + suc k
      next i k = omega arith

  module _ (f : ℕ → ℕ → Pat) (below : (p t : ℕ) → p < patterns s → texts_fit (f p t) ≡ true) (p t : ℕ) (known : p < patterns s) where
    children_known : Parent s p → (n : ℕ) → n ≤ pattern_count s p → KnownFrom (pattern_first s p) n
    children_known has n l k b = owned_pattern sh p (pattern_first s p + k) known (record { parent = has; from = omega arith; to = omega arith })

    all_texts : Parent s p → (n e step : ℕ) → n ≤ pattern_count s p → texts_fit_all (along f s (pattern_first s p) n e step) ≡ true
    all_texts has n e step l = along_texts f below (pattern_first s p) n e step (children_known has n l)

    constructor_texts : (m : Mark) (b : ℕ) (list : Bool) (qs : Pats) → texts_fit_all qs ≡ true → (one : Bool) → texts_fit (of_constructor m b list qs one) ≡ true
    unfolding of_constructor texts_fit
    constructor_texts m b list qs h true = h
    constructor_texts m b list qs h false = h

    kind_texts : (kind : PatternKind) → pattern_kind_of (pattern_kind s p) ≡ kind → texts_fit (of_kind f s p t kind) ≡ true
    unfolding of_kind texts_fit has_children
    kind_texts Discard e = refl
    kind_texts Variable e = refl
    kind_texts Assign e =
        let one = sh.assign_one p known (pattern_byte _ Assign e (omega arith)) in
        below (child s (pattern_first s p)) t
        (owned_pattern sh p (pattern_first s p) known (record { parent = ap has_children e; from = omega arith; to = omega arith }))
    kind_texts Integer e = a.integer_canonical p known (pattern_byte _ Integer e (omega arith))
    kind_texts ByteString e = pool_bytes (pattern_first s p) (pattern_count s p)
    kind_texts ListOfAll e = all_texts (ap has_children e) (pattern_count s p) (type_first s t) 0 (le_refl (pattern_count s p))
    kind_texts ListWithRest e =
        let two = sh.tail_after_some p known (pattern_byte _ ListWithRest e (omega arith)) in
        both_make (texts_fit_all (along f s (pattern_first s p) (pattern_count s p - 1) (type_first s t) 0)) (texts_fit (f (child s (pattern_first s p + (pattern_count s p - 1))) t))
        (all_texts (ap has_children e) (pattern_count s p - 1) (type_first s t) 0 (omega arith))
        (below (child s (pattern_first s p + (pattern_count s p - 1))) t
        (owned_pattern sh p (pattern_first s p + (pattern_count s p - 1)) known (record { parent = ap has_children e; from = omega arith; to = omega arith })))
    kind_texts Constructor e =
        constructor_texts (record { number = p; type = t }) (pattern_a s p) (decorated s t)
        (along f s (pattern_first s p) (pattern_count s p) (constructor_first s (constructor_of s t (pattern_a s p))) 1)
        (all_texts (ap has_children e) (pattern_count s p) (constructor_first s (constructor_of s t (pattern_a s p))) 1 (le_refl (pattern_count s p)))
        (one_constructor s t)
    kind_texts Pair e = all_texts (ap has_children e) (pattern_count s p) (type_first s t) 1 (le_refl (pattern_count s p))
    kind_texts Tuple e = all_texts (ap has_children e) (pattern_count s p) (type_first s t) 1 (le_refl (pattern_count s p))
    kind_texts Unknown e = refl

  texts_to : (deep p t : ℕ) → p < patterns s → texts_fit (pattern_to deep s p t) ≡ true
  unfolding pattern_to texts_fit
  texts_to zero p t known = refl
  texts_to (suc deep) p t known = kind_texts (pattern_to deep s) (texts_to deep) p t known (pattern_kind_of (pattern_kind s p)) refl

  clauses_kept : (c n : ℕ) → c + n ≤ clauses s → All (Kept s) (clause_patterns s c n)
  unfolding clause_patterns clause_pattern pattern
  clauses_kept c zero l = tt
  clauses_kept c (suc n) l = (
    (a.clause_fits c (omega arith), texts_to patterns_most (root s c) (subject s) (sh.root_pattern c (omega arith))),
    clauses_kept (c + 1) n (omega arith),
  )

  pub sheet_kept : All (Kept s) (sheet_patterns s)
  unfolding sheet_patterns
  sheet_kept = clauses_kept 0 (clauses s) (omega arith)

  -- ---- the root
  abbrev pub root_types : Path → ℕ
  root_types = type_after s (subject s)

  abbrev pub root_columns : List Path
  root_columns = columns (clause_rows 0 (sheet_patterns s))

  pub root_has : (v : Value) → of_type s (subject s) v ≡ true → Has s root_types root_columns v
  root_has v h =
      all_map (Open s (subject s)) (There s root_types v)
      (λ z (l, b). let r = legal_there s z (subject s) v h l b in ((r.part, r.there), r.type))
      root_columns (root_columns_lem s (subject s) (sheet_patterns s) (sheet_resolved s a) sheet_kept)

  -- ---- a tree that is the sheet's once its hoists are taken out
  -- `sheet_tree` is such a tree
  pub sheet_tree_is : OfSheet s (sheet_tree s)
  unfolding sheet_tree
  sheet_tree_is = record {
    same = whole_unhoisted (sheet_patterns s);
    most = length (sheet_patterns s);
    made = whole_tree_made (sheet_patterns s);
    there = whole_tree_present (sheet_patterns s) (omega (arith, length_sheet_patterns s, a.is_counted.some_clause));
  }
