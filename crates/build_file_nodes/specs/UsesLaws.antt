-- The laws of path numbers by first use: a number does not change when the table grows, and the list of classes is the table of the
-- paths used so far. There is always room, since as many classes are in the list as have a number.
use Rattle.std.specs.Prelude.{◌≡◌, refl, Bool, true, false, ℕ, zero, suc, ◌+◌, ◌≤◌, ◌<◌, get_or, eqb, ltb}
use Rattle.std.proofs.Math.Path.{sym, ap}
use Rattle.std.proofs.Common.{ap₂, ◌∙◌, true≢false, arith, add-zero, zero-add, add-one, length-set, get_or-set_same, get_or-set_other, length-take-le, get_or-take, eq-eqb, ne_eqb, lt-ltb, eqb-true}
use Rattle.std.proofs.lemmas.Bool.{false≢true, eqb-false}
use mathlib.Core.List.{List, [], ◌∷◌, ◌++◌, map}
use Rattle.std.proofs.Math.ListN.{length, set, take}
use Rattle.std.proofs.lemmas.List.{length-replicate, get_or-replicate}
use Rattle.std.proofs.Math.Seq.{take-suc-set}
use Rattle.base_words.specs.Words.{either, pick, zeros}
use Rattle.base_words.specs.WordsLaws.{pick_true, pick_false, either_false}
use Rattle.spec_rules.specs.Limits.{patterns_most}
use Rattle.spec_rules.specs.Rows.{Path, same_path, bit}
use Rattle.spec_rules.specs.TreeFile.{is_among, first_uses, path_number}
use Rattle.spec_file.specs.PathsLaws.{same_path_refl, same_path_sound, same_path_make, is_among_append, is_among_left, is_among_right, is_among_first, Covers, covers_first, covers_rest, path_number_first, path_number_rest, path_numbered, first_uses_new, first_uses_known}
use Rattle.build_file_nodes.specs.Uses.{Uses, numbered, Counted, with_class, number_in, classes_in, with_classes, class_numbers, place_in, with_path, Stand}

-- ---- room in the list
numbered_most : (l : List ℕ) → numbered l ≤ length l
unfolding numbered bit
numbered_most [] = omega arith
numbered_most (x ∷ xs) = go (ltb 0 x) (numbered_most xs)
  where
    go : (t : Bool) → numbered xs ≤ length xs → bit t + numbered xs ≤ suc (length xs)
    go true h = omega arith
    go false h = omega arith

numbered_set : (l : List ℕ) (i v : ℕ) → i < length l → get_or l i 0 ≡ 0 → 0 < v → numbered (set l i v) ≡ numbered l + 1
unfolding numbered bit
numbered_set [] i v h e p = absurd (omega arith)
numbered_set (x ∷ xs) zero v h e p = rw (lt-ltb 0 v p, e) (omega arith)
numbered_set (x ∷ xs) (suc i) v h e p = omega (arith, numbered_set xs i v (omega arith) e p)

numbered_zeros : (n : ℕ) → numbered (zeros n) ≡ 0
unfolding numbered bit
numbered_zeros zero = refl
numbered_zeros (suc n) = omega (arith, numbered_zeros n)

module _ (u : Uses) (class : ℕ) where
  pub use_again : (get_or u.number class 0 ≡ 0 → ⊥) → with_class u class ≡ u
  unfolding with_class
  use_again h = pick_false (eqb (get_or u.number class 0) 0) (record { number = set u.number class (u.count + 1); list = set u.list u.count class; count = u.count + 1 }) u (ne_eqb (get_or u.number class 0) 0 h)

  pub use_first : get_or u.number class 0 ≡ 0
      → with_class u class ≡ record { number = set u.number class (u.count + 1); list = set u.list u.count class; count = u.count + 1 }
  unfolding with_class
  use_first h = pick_true (eqb (get_or u.number class 0) 0) (record { number = set u.number class (u.count + 1); list = set u.list u.count class; count = u.count + 1 }) u (eq-eqb (get_or u.number class 0) 0 h)

  module _ (h : Counted u) (l : class < patterns_most) where
    -- a class without a number: there is room in the list
    pub use_room : get_or u.number class 0 ≡ 0 → u.count < patterns_most
    use_room e =
        omega (arith, h.count_is, h.number_long, numbered_set u.number class 1 (omega (arith, h.number_long)) e (omega arith), numbered_most (set u.number class 1), length-set u.number class 1)

    pub counted_with : Counted (with_class u class)
    counted_with = go (eqb (get_or u.number class 0) 0) refl
      where
        go : (t : Bool) → eqb (get_or u.number class 0) 0 ≡ t → Counted (with_class u class)
        go true e =
            let z = eqb-true (get_or u.number class 0) 0 e in
            rw (use_first z) (record {
              number_long = length-set u.number class (u.count + 1) ∙ h.number_long;
              list_long = length-set u.list u.count class ∙ h.list_long;
              count_is = numbered_set u.number class (u.count + 1) (omega (arith, h.number_long)) z (omega arith) ∙ ap (λ y. y + 1) h.count_is;
            })
        go false e = rw (use_again (eqb-false (get_or u.number class 0) 0 e)) h

-- ---- numbers in a table that grows
number_left : (ps qs : List Path) (p : Path) → is_among p ps ≡ true → path_number (ps ++ qs) p ≡ path_number ps p
unfolding is_among
number_left [] qs p h = absurd (false≢true h)
number_left (q ∷ ps) qs p h = go (same_path p q) refl h (number_left ps qs p)
  where
    go : (b : Bool) → same_path p q ≡ b → either b (is_among p ps) ≡ true → (is_among p ps ≡ true → path_number (ps ++ qs) p ≡ path_number ps p)
        → path_number (q ∷ (ps ++ qs)) p ≡ path_number (q ∷ ps) p
    go true e x ih = path_number_first q (ps ++ qs) p e ∙ sym (path_number_first q ps p e)
    go false e x ih = path_number_rest q (ps ++ qs) p e ∙ ap suc (ih x) ∙ sym (path_number_rest q ps p e)

number_right : (ps qs : List Path) (p : Path) → is_among p ps ≡ false → path_number (ps ++ qs) p ≡ length ps + path_number qs p
unfolding is_among
number_right [] qs p h = sym (zero-add (path_number qs p))
number_right (q ∷ ps) qs p h =
    let e = either_false (same_path p q) (is_among p ps) h in
    path_number_rest q (ps ++ qs) p e.0 ∙ omega (arith, number_right ps qs p e.1)

among_with : (table : List Path) (p : Path) → is_among p (with_path table p) ≡ true
unfolding with_path
among_with table p = go (is_among p table) refl
  where
    go : (b : Bool) → is_among p table ≡ b → is_among p (pick (is_among p table) table (table ++ p ∷ [])) ≡ true
    go true e = rw e e
    go false e = rw e (is_among_right p table (p ∷ []) (is_among_first p []))

pub first_uses_with : (table : List Path) (p : Path) (ps : List Path) → first_uses table (p ∷ ps) ≡ first_uses (with_path table p) ps
unfolding with_path
first_uses_with table p ps = go (is_among p table) refl
  where
    go : (b : Bool) → is_among p table ≡ b → first_uses table (p ∷ ps) ≡ first_uses (pick (is_among p table) table (table ++ p ∷ [])) ps
    go true e = first_uses_known table p ps e ∙ ap (λ z. first_uses (pick z table (table ++ p ∷ [])) ps) (sym e)
    go false e = first_uses_new table p ps e ∙ ap (λ z. first_uses (pick z table (table ++ p ∷ [])) ps) (sym e)

number_with_path : (table : List Path) (q p : Path) → is_among p table ≡ true → (path_number (with_path table q) p ≡ path_number table p) × (is_among p (with_path table q) ≡ true)
unfolding with_path
number_with_path table q p h = go (is_among q table) refl
  where
    go : (b : Bool) → is_among q table ≡ b
        → (path_number (pick (is_among q table) table (table ++ q ∷ [])) p ≡ path_number table p) × (is_among p (pick (is_among q table) table (table ++ q ∷ [])) ≡ true)
    go true e = rw e (refl, h)
    go false e = rw e (number_left table (q ∷ []) p h, is_among_left p table (q ∷ []) h)

-- THEOREM: a path keeps its number
number_kept : (table ps : List Path) (p : Path) → is_among p table ≡ true → path_number (first_uses table ps) p ≡ path_number table p
unfolding first_uses
number_kept table [] p h = refl
number_kept table (q ∷ ps) p h =
    let x = number_with_path table q p h in
    ap (λ z. path_number z p) (first_uses_with table q ps) ∙ number_kept (with_path table q) ps p x.1 ∙ x.0

pub first_uses_append : (table ps qs : List Path) → first_uses table (ps ++ qs) ≡ first_uses (first_uses table ps) qs
unfolding first_uses
first_uses_append table [] qs = refl
first_uses_append table (p ∷ ps) qs =
    first_uses_with table p (ps ++ qs) ∙ first_uses_append (with_path table p) ps qs ∙ ap (λ z. first_uses z qs) (sym (first_uses_with table p ps))

pub number_first_use : (table ps : List Path) (p : Path) → path_number (first_uses table (p ∷ ps)) p ≡ path_number (with_path table p) p
number_first_use table ps p =
    ap (λ z. path_number z p) (first_uses_with table p ps) ∙ number_kept (with_path table p) ps p (among_with table p)

-- ---- what the uses stand for
with_path_known : (table : List Path) (p : Path) → is_among p table ≡ true → with_path table p ≡ table
unfolding with_path
with_path_known table p e = pick_true (is_among p table) table (table ++ p ∷ []) e

with_path_new : (table : List Path) (p : Path) → is_among p table ≡ false → with_path table p ≡ table ++ p ∷ []
unfolding with_path
with_path_new table p e = pick_false (is_among p table) table (table ++ p ∷ []) e

place_in_there : (table : List Path) (p : Path) → is_among p table ≡ true → place_in table p ≡ path_number table p + 1
unfolding place_in
place_in_there table p e = pick_true (is_among p table) (path_number table p + 1) 0 e

place_in_none : (table : List Path) (p : Path) → is_among p table ≡ false → place_in table p ≡ 0
unfolding place_in
place_in_none table p e = pick_false (is_among p table) (path_number table p + 1) 0 e

place_in_last : (table : List Path) (p : Path) → is_among p table ≡ false → place_in (table ++ p ∷ []) p ≡ length table + 1
place_in_last table p e =
    place_in_there (table ++ p ∷ []) p (is_among_right p table (p ∷ []) (is_among_first p []))
    ∙ ap (λ z. z + 1) (number_right table (p ∷ []) p e ∙ ap (λ z. length table + z) (path_number_first p [] p (same_path_refl p)) ∙ add-zero (length table))

place_in_other : (table : List Path) (p q : Path) → same_path q p ≡ false → place_in (table ++ p ∷ []) q ≡ place_in table q
unfolding is_among
place_in_other table p q e = go (is_among q table) refl
  where
    go : (b : Bool) → is_among q table ≡ b → place_in (table ++ p ∷ []) q ≡ place_in table q
    go true x =
        place_in_there (table ++ p ∷ []) q (is_among_left q table (p ∷ []) x) ∙ ap (λ z. z + 1) (number_left table (p ∷ []) q x) ∙ sym (place_in_there table q x)
    go false x = place_in_none (table ++ p ∷ []) q (is_among_append q table (p ∷ []) ∙ rw (x, e)) ∙ sym (place_in_none table q x)

pub class_numbers_append : (all ps qs : List Path) → class_numbers all (ps ++ qs) ≡ class_numbers all ps ++ class_numbers all qs
unfolding class_numbers
class_numbers_append all [] qs = refl
class_numbers_append all (p ∷ ps) qs = ap (λ z. path_number all p ∷ z) (class_numbers_append all ps qs)

length_class_numbers : (all ps : List Path) → length (class_numbers all ps) ≡ length ps
unfolding class_numbers
length_class_numbers all [] = refl
length_class_numbers all (p ∷ ps) = ap suc (length_class_numbers all ps)

pub with_classes_append : (u : Uses) (xs ys : List ℕ) → with_classes u (xs ++ ys) ≡ with_classes (with_classes u xs) ys
unfolding with_classes
with_classes_append u [] ys = refl
with_classes_append u (x ∷ xs) ys = with_classes_append (with_class u x) xs ys

module _ (all : List Path) (short : length all ≤ patterns_most) where
  pub class_small : (p : Path) → is_among p all ≡ true → path_number all p < patterns_most
  class_small p h = omega (arith, (path_numbered all p h).inside)

  module _ (u : Uses) (table : List Path) (s : Stand all u table) where
    count_small : u.count ≤ patterns_most
    count_small = omega (arith, s.counted.count_is, s.counted.number_long, numbered_most u.number)

    pub stand_count : u.count ≡ length table
    stand_count = sym (length-take-le u.count u.list (omega (arith, count_small, s.counted.list_long))) ∙ ap length s.classes ∙ length_class_numbers all table

    module _ (p : Path) (h : is_among p all ≡ true) where
      abbrev class : ℕ
      class = path_number all p

      known_stand : is_among p table ≡ true → Stand all (with_class u class) (with_path table p)
      known_stand e =
          let x : get_or u.number class 0 ≡ path_number table p + 1 = s.places p h ∙ place_in_there table p e in
          rw (use_again u class (λ z. omega arith), with_path_known table p e) s

      new_class : is_among p table ≡ false → get_or u.number class 0 ≡ 0
      new_class e = s.places p h ∙ place_in_none table p e

      new_list : is_among p table ≡ false → classes_in (with_class u class) ≡ class_numbers all (table ++ p ∷ [])
      unfolding class_numbers
      new_list e =
          let z = new_class e in
          let room : u.count < length u.list = omega (arith, use_room u class s.counted (class_small p h) z, s.counted.list_long) in
          ap (λ v. take v.count v.list) (use_first u class z)
          ∙ ap (λ m. take m (set u.list u.count class)) (add-one u.count)
          ∙ take-suc-set u.list u.count class room
          ∙ ap (λ y. y ++ class ∷ []) s.classes
          ∙ sym (class_numbers_append all table (p ∷ []))

      new_place : is_among p table ≡ false → (q : Path) → is_among q all ≡ true → get_or (with_class u class).number (path_number all q) 0 ≡ place_in (table ++ p ∷ []) q
      new_place e q k = ap (λ v. get_or v.number (path_number all q) 0) (use_first u class (new_class e)) ∙ go (same_path q p) refl
        where
          go : (b : Bool) → same_path q p ≡ b → get_or (set u.number class (u.count + 1)) (path_number all q) 0 ≡ place_in (table ++ p ∷ []) q
          go true x =
              let y : q ≡ p = same_path_sound q p x in
              rw y
              (get_or-set_same u.number class (u.count + 1) 0 (omega (arith, class_small p h, s.counted.number_long))
              ∙ ap (λ m. m + 1) stand_count
              ∙ sym (place_in_last table p e))
          go false x =
              get_or-set_other u.number class (path_number all q) (u.count + 1) 0
              (λ y. true≢false (sym (same_path_make q p (sym (path_numbered all q k).found ∙ ap (λ m. get_or all m []) y ∙ (path_numbered all p h).found)) ∙ x))
              ∙ s.places q k
              ∙ sym (place_in_other table p q x)

      -- THEOREM: a path used once more
      pub stand_with : Stand all (with_class u class) (with_path table p)
      stand_with = go (is_among p table) refl
        where
          go : (b : Bool) → is_among p table ≡ b → Stand all (with_class u class) (with_path table p)
          go true e = known_stand e
          go false e =
              rw (with_path_new table p e)
              (record { counted = counted_with u class s.counted (class_small p h); classes = new_list e; places = new_place e })

      -- THEOREM: its number is the one that it has in every table that begins with this one
      pub number_used : number_in (with_class u class) class ≡ path_number (with_path table p) p
      number_used =
          let x = stand_with.places p h ∙ place_in_there (with_path table p) p (among_with table p) in
          omega arith

  -- paths used one after another
  pub stand_withs : (ps : List Path) (u : Uses) (table : List Path) → Stand all u table → Covers all ps → Stand all (with_classes u (class_numbers all ps)) (first_uses table ps)
  unfolding with_classes class_numbers first_uses
  stand_withs [] u table s v = s
  stand_withs (p ∷ ps) u table s v =
      rw (first_uses_with table p ps)
      (stand_withs ps (with_class u (path_number all p)) (with_path table p) (stand_with u table s p (covers_first all p ps v)) (covers_rest all p ps v))

-- before any use
abbrev pub unused : List ℕ → Uses
unused list = record { number = zeros patterns_most; list = list; count = 0 }

pub stand_unused : (all : List Path) → length all ≤ patterns_most → (list : List ℕ) → length list ≡ patterns_most → Stand all (unused list) []
unfolding class_numbers place_in is_among
stand_unused all short list long =
    record {
      counted = record { number_long = length-replicate {A = ℕ} patterns_most 0; list_long = long; count_is = numbered_zeros patterns_most };
      classes = refl;
      places = λ p h. get_or-replicate patterns_most (path_number all p) 0 0 (class_small all short p h);
    }

-- a class used has a number
pub use_some : (u : Uses) (class : ℕ) → Counted u → class < patterns_most → 0 < get_or (with_class u class).number class 0
use_some u class h l = go (eqb (get_or u.number class 0) 0) refl
  where
    go : (b : Bool) → eqb (get_or u.number class 0) 0 ≡ b → 0 < get_or (with_class u class).number class 0
    go true e =
        let z = eqb-true (get_or u.number class 0) 0 e in
        rw (use_first u class z) (omega (arith, get_or-set_same u.number class (u.count + 1) 0 (omega (arith, h.number_long))))
    go false e =
        let z = eqb-false (get_or u.number class 0) 0 e in
        rw (use_again u class z) (omega arith)

-- ---- the classes' paths
pub paths_of_classes : (all : List Path) (path : ℕ → Path) → ((c : ℕ) → c < length all → path c ≡ get_or all c []) → (ps : List Path) → Covers all ps
    → map path (class_numbers all ps) ≡ ps
unfolding class_numbers
paths_of_classes all path e [] v = refl
paths_of_classes all path e (p ∷ ps) v =
    let n = path_numbered all p (covers_first all p ps v) in
    ap₂ (λ x y. x ∷ y) (e (path_number all p) n.inside ∙ n.found) (paths_of_classes all path e ps (covers_rest all p ps v))

classes_inside : (all ps : List Path) → Covers all ps → (i : ℕ) → i < length ps → get_or (class_numbers all ps) i 0 < length all
unfolding class_numbers
classes_inside all [] v i l = absurd (omega arith)
classes_inside all (p ∷ ps) v zero l = (path_numbered all p (covers_first all p ps v)).inside
classes_inside all (p ∷ ps) v (suc i) l = classes_inside all ps (covers_rest all p ps v) i (omega arith)

module _ (all : List Path) (short : length all ≤ patterns_most) (u : Uses) (table : List Path) (s : Stand all u table) (v : Covers all table) where
  pub list_inside : u.count ≤ length u.list
  list_inside = omega (arith, count_small all short u table s, s.counted.list_long)

  pub list_known : (i : ℕ) → i < u.count → get_or u.list i 0 < length all
  list_known i l =
      omega (arith, get_or-take u.count u.list i 0 l, ap (λ z. get_or z i 0) s.classes, classes_inside all table v i (omega (arith, stand_count all short u table s)))
