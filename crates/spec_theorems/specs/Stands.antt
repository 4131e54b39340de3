-- Where each pattern of a sheet stands: its level, its path and its type are functions of its number, since a pattern is one clause's
-- root or one entry of one pattern's list. So a sheet of n patterns has at most n paths, and no path is longer than its level.
use Prim.Native.Nat.{ℕ, zero, suc, ◌+◌, ◌-◌, ◌≤◌, ◌<◌}
use native.Mathlib.Omega.{arith}
use Rattle.std.proofs.Common.{eq-or-lt_of_le, ◌∙◌}
use Rattle.std.proofs.Math.Nat.{le_of_suc-le}
use Rattle.std.specs.Prelude.{◌≡◌, Bool, eqb, length}
use Rattle.std.proofs.Math.Path.{refl, sym, ap}
use Rattle.std.proofs.Math.Logic.{⊎_elim}
use Rattle.std.proofs.Math.Bool.{true, false}
use Rattle.std.proofs.lemmas.Bool.{false≢true}
use mathlib.Core.List.{List, [], ◌∷◌}
use Rattle.std.proofs.Math.ListN.{length-append}
use Rattle.base_words.specs.Words.{both, pick, Bytes}
use Rattle.base_words.specs.WordsLaws.{word_at_small}
use Rattle.spec_rules.specs.Limits.{depth_most}
use Rattle.spec_rules.specs.SheetFile.{subject, clauses, patterns, type_first, constructor_first, entry, pattern_kind, pattern_a, pattern_first, pattern_count, child, root}
use Rattle.spec_rules.specs.Patterns.{PatternKind, Discard, Variable, Assign, Integer, ByteString, ListOfAll, ListWithRest, Constructor, Pair, Tuple, Unknown, pattern_kind_of, one_constructor, decorated, constructor_of}
use Rattle.spec_rules.specs.Rows.{Step, pair, tuple, constr, list, listtail, Path, into}
use Rattle.spec_rules.specs.SheetRefusals.{within}
use Rattle.spec_rules.specs.TreeFile.{is_among}
use Rattle.spec_accepted.specs.SheetFacts.{Owns, Shaped, Accepted, owned_entry, one_entry, entry_no_root, root_or_entry, within_child}
use Rattle.spec_file.specs.Writable.{SmallStep, SmallPath}
use Rattle.spec_file.specs.PathsLaws.{is_among_first, is_among_rest}

module _ (s : List ℕ) where
  -- ---- part i of pattern p, which is of type t and stands at x: its path and its type
  unfoldable pub part_path : ℕ → ℕ → Path → ℕ → PatternKind → Path
  unfolding into pattern_count one_constructor decorated
  part_path p t x i Discard = x
  part_path p t x i Variable = x
  part_path p t x i Assign = x
  part_path p t x i Integer = x
  part_path p t x i ByteString = x
  part_path p t x i ListOfAll = into x (list i t)
  part_path p t x i ListWithRest = pick (eqb (i + 1) (pattern_count s p)) (into x (listtail i t)) (into x (list i t))
  part_path p t x i Constructor = into x (constr i (both (one_constructor s t) (decorated s t)) t)
  part_path p t x i Pair = into x (pair i t)
  part_path p t x i Tuple = into x (tuple i t)
  part_path p t x i Unknown = x

  unfoldable pub part_type : ℕ → ℕ → ℕ → PatternKind → ℕ
  unfolding type_first constructor_first entry pattern_a pattern_count constructor_of
  part_type p t i Discard = t
  part_type p t i Variable = t
  part_type p t i Assign = t
  part_type p t i Integer = t
  part_type p t i ByteString = t
  part_type p t i ListOfAll = entry s (type_first s t)
  part_type p t i ListWithRest = pick (eqb (i + 1) (pattern_count s p)) t (entry s (type_first s t))
  part_type p t i Constructor = entry s (constructor_first s (constructor_of s t (pattern_a s p)) + i)
  part_type p t i Pair = entry s (type_first s t + i)
  part_type p t i Tuple = entry s (type_first s t + i)
  part_type p t i Unknown = t

  abbrev pub kind_at : ℕ → PatternKind
  kind_at p = pattern_kind_of (pattern_kind s p)

  -- pattern k is a clause's root
  pub record RootAt (k : ℕ) (x : Path) (t : ℕ) : Type 0 where
    pub clause : ℕ
    pub known : clause < clauses s
    pub is : root s clause ≡ k
    pub path_is : x ≡ []
    pub type_is : t ≡ subject s

  -- pattern k is a part of a pattern that stands as `Above` says
  pub record PartAt (Above : ℕ → Path → ℕ → Type 0) (k : ℕ) (x : Path) (t : ℕ) : Type 0 where
    pub owner : ℕ
    pub its_path : Path
    pub its_type : ℕ
    pub above : Above owner its_path its_type
    pub known : owner < patterns s
    pub item : ℕ
    pub owns : Owns s owner item
    pub is : child s item ≡ k
    pub path_is : x ≡ part_path owner its_type its_path (item - pattern_first s owner) (kind_at owner)
    pub type_is : t ≡ part_type owner its_type (item - pattern_first s owner) (kind_at owner)

  -- pattern k, of type t, stands at x, n levels below a root
  unfoldable pub Stands : ℕ → ℕ → Path → ℕ → Type 0
  Stands zero k x t = RootAt k x t
  Stands (suc n) k x t = PartAt (Stands n) k x t

  -- a pattern of the sheet stands at x
  pub record Used (x : Path) : Type 0 where
    pub level : ℕ
    pub number : ℕ
    pub type : ℕ
    pub known : number < patterns s
    pub stands : Stands level number x type

  -- ---- a pattern stands at one path, with one type
  -- two parts with one number are one part of one pattern
  same_part : Shaped s → (P Q : ℕ → Path → ℕ → Type 0)
      → ((p : ℕ) (x y : Path) (t u : ℕ) → P p x t → Q p y u → (x ≡ y) × (t ≡ u))
      → (k : ℕ) (x y : Path) (t u : ℕ) → PartAt P k x t → PartAt Q k y u → (x ≡ y) × (t ≡ u)
  same_part sh P Q same k x y t u a b =
      let entry_a = owned_entry sh a.owner a.item a.known a.owns in
      let entry_b = owned_entry sh b.owner b.item b.known b.owns in
      let j : a.item ≡ b.item = one_entry sh a.item b.item entry_a entry_b (a.is ∙ sym b.is) in
      let p : a.owner ≡ b.owner = sh.one_owner a.owner b.owner b.item a.known b.known (rw j at a.owns) b.owns in
      let (z, w) = same b.owner a.its_path b.its_path a.its_type b.its_type (rw p at a.above) b.above in (
        a.path_is ∙ (λ i. part_path (p i) (w i) (z i) (j i - pattern_first s (p i)) (kind_at (p i))) ∙ sym b.path_is,
        a.type_is ∙ (λ i. part_type (p i) (w i) (j i - pattern_first s (p i)) (kind_at (p i))) ∙ sym b.type_is,
      )

  no_root : Shaped s → (P : ℕ → Path → ℕ → Type 0) (k : ℕ) (x y : Path) (t u : ℕ) → RootAt k x t → PartAt P k y u → ⊥
  no_root sh P k x y t u a b =
      entry_no_root sh b.item a.clause (owned_entry sh b.owner b.item b.known b.owns) a.known (b.is ∙ sym a.is)

  pub stands_once : Shaped s → (m n k : ℕ) (x y : Path) (t u : ℕ) → Stands m k x t → Stands n k y u → (x ≡ y) × (t ≡ u)
  unfolding Stands
  stands_once sh zero zero k x y t u a b = (a.path_is ∙ sym b.path_is, a.type_is ∙ sym b.type_is)
  stands_once sh zero (suc n) k x y t u a b = absurd (no_root sh (Stands n) k x y t u a b)
  stands_once sh (suc m) zero k x y t u a b = absurd (no_root sh (Stands m) k y x u t b a)
  stands_once sh (suc m) (suc n) k x y t u a b = same_part sh (Stands m) (Stands n) (stands_once sh m n) k x y t u a b

  -- ---- every pattern stands somewhere: a part's owner has a lower number
  -- where it stands
  pub record Standing (k : ℕ) : Type 0 where
    pub level : ℕ
    pub path : Path
    pub type : ℕ
    pub stands : Stands level k path type

  part_standing : (p j k : ℕ) → p < patterns s → Owns s p j → child s j ≡ k → Standing p → Standing k
  unfolding Stands
  part_standing p j k known owns is o = record {
    level = suc o.level;
    path = part_path p o.type o.path (j - pattern_first s p) (kind_at p);
    type = part_type p o.type (j - pattern_first s p) (kind_at p);
    stands = record {
      owner = p;
      its_path = o.path;
      its_type = o.type;
      above = o.stands;
      known = known;
      item = j;
      owns = owns;
      is = is;
      path_is = refl;
      type_is = refl;
    };
  }

  root_standing : (c k : ℕ) → c < clauses s → root s c ≡ k → Standing k
  unfolding Stands
  root_standing c k known is = record {
    level = 0;
    path = [];
    type = subject s;
    stands = record { clause = c; known = known; is = is; path_is = refl; type_is = refl };
  }

  stands_below : Shaped s → (m k : ℕ) → k < m → k < patterns s → Standing k
  stands_below sh zero k l h = absurd (omega arith)
  stands_below sh (suc m) k l h =
      ⊎_elim (λ (c, known, is). root_standing c k known is)
      (λ (j, inside, is).
      let (p, known, owns) = sh.owner j inside in
      let above = sh.child_above p j known owns in
      part_standing p j k known owns is (stands_below sh m p (omega arith) known))
      (root_or_entry sh k h)

  pub standing : Shaped s → (k : ℕ) → k < patterns s → Standing k
  standing sh k h = stands_below sh (suc k) k (omega arith) h

  -- ---- a sheet of n patterns has at most n paths
  -- the paths of the patterns below n
  paths_below : Shaped s → (n : ℕ) → n ≤ patterns s → List Path
  paths_below sh zero h = []
  paths_below sh (suc n) h = (standing sh n h).path ∷ paths_below sh n (le_of_suc-le h)

  length_paths_below : (sh : Shaped s) (n : ℕ) (h : n ≤ patterns s) → length (paths_below sh n h) ≡ n
  unfolding paths_below
  length_paths_below sh zero h = refl
  length_paths_below sh (suc n) h = ap suc (length_paths_below sh n (le_of_suc-le h))

  among_paths_below : (sh : Shaped s) (n : ℕ) (h : n ≤ patterns s) (m k : ℕ) (x : Path) (t : ℕ) → k < n → Stands m k x t → is_among x (paths_below sh n h) ≡ true
  unfolding paths_below
  among_paths_below sh zero h m k x t l a = absurd (omega arith)
  among_paths_below sh (suc n) h m k x t l a =
      ⊎_elim here
      (λ g. is_among_rest x (standing sh n h).path (paths_below sh n (le_of_suc-le h)) (among_paths_below sh n (le_of_suc-le h) m k x t g a))
      (eq-or-lt_of_le {n = k} {m = n} (omega arith))
    where
      here : k ≡ n → is_among x ((standing sh n h).path ∷ paths_below sh n (le_of_suc-le h)) ≡ true
      here e =
          let o : Standing n = standing sh n h in
          let same : x ≡ o.path = (stands_once sh m o.level n x o.path t o.type (rw e at a) o.stands).0 in
          rw same (is_among_first o.path (paths_below sh n (le_of_suc-le h)))

  pub sheet_paths : Shaped s → List Path
  sheet_paths sh = paths_below sh (patterns s) (omega arith)

  pub length_sheet_paths : (sh : Shaped s) → length (sheet_paths sh) ≡ patterns s
  unfolding sheet_paths
  length_sheet_paths sh = length_paths_below sh (patterns s) (omega arith)

  pub used_among : (sh : Shaped s) (x : Path) → Used x → is_among x (sheet_paths sh) ≡ true
  unfolding sheet_paths
  used_among sh x u = among_paths_below sh (patterns s) (omega arith) u.level u.number x u.type u.known u.stands

  -- ---- levels: "Depth counts from 1 at the root and is at most 12"
  stands_within : Accepted s → (n d k : ℕ) (x : Path) (t : ℕ) → n + d ≡ depth_most → Stands n k x t → within d s k ≡ true
  unfolding Stands
  stands_within a zero d k x t e r =
      let f : d ≡ depth_most = omega arith in
      rw (f, ← r.is) (a.root_depth r.clause r.known)
  stands_within a (suc n) d k x t e r =
      rw (← r.is)
      (within_child s d r.owner r.item (stands_within a n (suc d) r.owner r.its_path r.its_type (omega arith) r.above) r.owns)

  pub level_most : Accepted s → (n k : ℕ) (x : Path) (t : ℕ) → Stands n k x t → n < depth_most
  unfolding Stands
  level_most a zero k x t r = omega arith
  level_most a (suc n) k x t r =
      let above = level_most a n r.owner r.its_path r.its_type r.above in
      go (depth_most - suc n) (omega arith)
    where
      go : (d : ℕ) → suc n + d ≡ depth_most → suc n < depth_most
      go zero e = absurd (false≢true (unfold within in stands_within a (suc n) 0 k x t e r))
      go (suc d) e = omega arith

  length_into : (x : Path) (u : Step) → length (into x u) ≤ suc (length x)
  unfolding into
  length_into x u = omega (arith, length-append x (u ∷ []))

  length_pick : (b : Bool) (x : Path) (u w : Step) → length (pick b (into x u) (into x w)) ≤ suc (length x)
  length_pick true x u w = length_into x u
  length_pick false x u w = length_into x w

  length_part_path : (p t : ℕ) (x : Path) (i : ℕ) (kind : PatternKind) → length (part_path p t x i kind) ≤ suc (length x)
  unfolding part_path
  length_part_path p t x i Discard = omega arith
  length_part_path p t x i Variable = omega arith
  length_part_path p t x i Assign = omega arith
  length_part_path p t x i Integer = omega arith
  length_part_path p t x i ByteString = omega arith
  length_part_path p t x i ListOfAll = length_into x (list i t)
  length_part_path p t x i ListWithRest = length_pick (eqb (i + 1) (pattern_count s p)) x _ _
  length_part_path p t x i Constructor = length_into x (constr i (both (one_constructor s t) (decorated s t)) t)
  length_part_path p t x i Pair = length_into x (pair i t)
  length_part_path p t x i Tuple = length_into x (tuple i t)
  length_part_path p t x i Unknown = omega arith

  pub length_level : (n k : ℕ) (x : Path) (t : ℕ) → Stands n k x t → length x ≤ n
  unfolding Stands
  length_level zero k x t r = rw r.path_is (omega arith)
  length_level (suc n) k x t r =
      rw r.path_is
      (omega (
        arith,
        length_part_path r.owner r.its_type r.its_path (r.item - pattern_first s r.owner) (kind_at r.owner),
        length_level n r.owner r.its_path r.its_type r.above,
      ))

  pub used_short : Accepted s → (x : Path) → Used x → length x < depth_most
  used_short a x u =
      omega (arith, level_most a u.level u.number x u.type u.stands, length_level u.level u.number x u.type u.stands)

  -- ---- the numbers of a sheet of bytes are those that two bytes hold
  module _ (bytes : Bytes s) where
    entry_small : (e : ℕ) → entry s e < 65536
    unfolding entry
    entry_small e = word_at_small bytes _

    subject_small : subject s < 65536
    unfolding subject
    subject_small = word_at_small bytes _

    pub name_small : (p : ℕ) → pattern_a s p < 65536
    unfolding pattern_a
    name_small p = word_at_small bytes _

    count_small : (p : ℕ) → pattern_count s p < 65536
    unfolding pattern_count
    count_small p = word_at_small bytes _

    into_small : (x : Path) (u : Step) → SmallPath x → SmallStep u → SmallPath (into x u)
    unfolding into SmallPath
    into_small [] u h k = (k, tt)
    into_small (w ∷ x) u h k = (h.0, into_small x u h.1 k)

    pick_small : (b : Bool) (x : Path) (u w : Step) → SmallPath x → SmallStep u → SmallStep w → SmallPath (pick b (into x u) (into x w))
    pick_small true x u w h k m = into_small x u h k
    pick_small false x u w h k m = into_small x w h m

    path_small : (p t : ℕ) (x : Path) (i : ℕ) (kind : PatternKind) → i < pattern_count s p → t < 65536 → SmallPath x → SmallPath (part_path p t x i kind)
    unfolding part_path SmallStep
    path_small p t x i Discard l k h = h
    path_small p t x i Variable l k h = h
    path_small p t x i Assign l k h = h
    path_small p t x i Integer l k h = h
    path_small p t x i ByteString l k h = h
    path_small p t x i ListOfAll l k h = into_small x (list i t) h (omega (arith, count_small p), k)
    path_small p t x i ListWithRest l k h = pick_small (eqb (i + 1) (pattern_count s p)) x _ _ h (omega (arith, count_small p), k) (omega (arith, count_small p), k)
    path_small p t x i Constructor l k h = into_small x (constr i (both (one_constructor s t) (decorated s t)) t) h (omega (arith, count_small p), k)
    path_small p t x i Pair l k h = into_small x (pair i t) h (omega (arith, count_small p), k)
    path_small p t x i Tuple l k h = into_small x (tuple i t) h (omega (arith, count_small p), k)
    path_small p t x i Unknown l k h = h

    type_small : (p t i : ℕ) (kind : PatternKind) → t < 65536 → part_type p t i kind < 65536
    unfolding part_type
    type_small p t i Discard k = k
    type_small p t i Variable k = k
    type_small p t i Assign k = k
    type_small p t i Integer k = k
    type_small p t i ByteString k = k
    type_small p t i ListOfAll k = entry_small (type_first s t)
    type_small p t i ListWithRest k = go (eqb (i + 1) (pattern_count s p))
      where
        go : (b : Bool) → pick b t (entry s (type_first s t)) < 65536
        go true = k
        go false = entry_small (type_first s t)
    type_small p t i Constructor k = entry_small (constructor_first s (constructor_of s t (pattern_a s p)) + i)
    type_small p t i Pair k = entry_small (type_first s t + i)
    type_small p t i Tuple k = entry_small (type_first s t + i)
    type_small p t i Unknown k = k

    stands_small : (n k : ℕ) (x : Path) (t : ℕ) → Stands n k x t → SmallPath x × (t < 65536)
    unfolding Stands SmallPath
    stands_small zero k x t r = (rw r.path_is tt, rw r.type_is subject_small)
    stands_small (suc n) k x t r =
        let (h, l) = stands_small n r.owner r.its_path r.its_type r.above in (
          rw r.path_is
              (path_small r.owner r.its_type r.its_path (r.item - pattern_first s r.owner) (kind_at r.owner) (omega (arith, r.owns.from, r.owns.to)) l h),
          rw r.type_is (type_small r.owner r.its_type (r.item - pattern_first s r.owner) (kind_at r.owner) l),
        )

    pub used_small : (x : Path) → Used x → SmallPath x
    used_small x u = (stands_small u.level u.number x u.type u.stands).0
