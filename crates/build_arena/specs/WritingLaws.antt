-- What stands in the arena after a store, and a tree held that stays: the laws for code that writes a tree record by record.
-- Rests on the laws of stores and of standing bytes; a store keeps what stands apart from it.
use Rattle.std.specs.Prelude.{◌≡◌, refl, Bool, true, false, List, [], ◌++◌, ℕ, ◌+◌, ◌-◌, ◌*◌, ◌≤◌, ◌<◌, length, get_or, take, drop, ltb}
use Rattle.std.proofs.Common.{sym, ap, ◌∙◌, append_assoc, arith, zero-add, length-append, length-drop, take-append-drop, length-take-le, ext_get_or, get_or-take, get_or-drop, get_or-append-add, drop-drop, ltb-true, ltb-false}
use Rattle.std.proofs.Math.ListN.{get_or-append}
use Rattle.base_words.specs.Stored.{stored}
use Rattle.base_words.specs.StoredLaws.{length_stored, stored_is, get_or_stored_below, get_or_stored_above}
use Rattle.spec_rules.specs.Limits.{nodes_most, node_size, case_size, binding_size}
use Rattle.spec_rules.specs.Rows.{Path, Binding}
use Rattle.spec_rules.specs.Building.{Tree, Cases, absent, leaf, hoist, switch, listswitch, cnil, ccons}
use Rattle.spec_rules.specs.Hoisting.{how_many, nodes_in, nodes_in_of, bindings_in, bindings_in_of}
use Rattle.spec_rules.specs.TreeFile.{node_bytes, cases_in, cases_in_of, own_cases, bindings_bytes}
use Rattle.spec_file.specs.StandingLaws.{Stands, stands_byte}
use Rattle.spec_file.specs.LengthLaws.{length_own_cases, length_bindings_bytes}
use Rattle.spec_file.specs.TreeStands.{NodesStand, CasesStand, BindingsStand, TreeStands}
use Rattle.build_arena.specs.Arena.{nodes_start, cases_start, cases_most, bindings_start, arena_starts, Held, HeldOf}

-- ---- what stands
pub stands_room : {t : List ℕ} {i : ℕ} {xs : List ℕ} → Stands t i xs → i + length xs ≤ length t
stands_room {t} {i} {xs} s =
    omega (arith, ap length s.whole, length-append s.before (xs ++ s.after), length-append xs s.after, s.start)

-- bytes that are there one by one
pub stands_bytes : (t : List ℕ) (i : ℕ) (xs : List ℕ) → i + length xs ≤ length t → ((k : ℕ) → k < length xs → get_or t (i + k) 0 ≡ get_or xs k 0) → Stands t i xs
stands_bytes t i xs h f =
    record {
      before = take i t;
      after = drop (i + length xs) t;
      whole =
          sym (take-append-drop i t)
          ∙ ap (λ z. take i t ++ z)
          (sym (take-append-drop (length xs) (drop i t)) ∙ ap (λ z. z ++ drop (length xs) (drop i t)) middle ∙ ap (λ z. xs ++ z) (drop-drop (length xs) i t));
      start = length-take-le i t (omega arith);
    }
  where
    size : length (take (length xs) (drop i t)) ≡ length xs
    size = length-take-le (length xs) (drop i t) (omega (arith, length-drop i t))

    middle : take (length xs) (drop i t) ≡ xs
    middle =
        ext_get_or 0 (take (length xs) (drop i t)) xs size
        (λ k l. let q : k < length xs = omega (arith, size) in get_or-take (length xs) (drop i t) k 0 q ∙ get_or-drop i t k 0 ∙ f k q)

pub stands_nothing : (t : List ℕ) (i : ℕ) → i ≤ length t → Stands t i []
stands_nothing t i h = stands_bytes t i [] (omega arith) (λ k l. absurd (omega arith))

pub stands_join : (t : List ℕ) (i j : ℕ) (xs ys : List ℕ) → i + length xs ≡ j → Stands t i xs → Stands t j ys → Stands t i (xs ++ ys)
stands_join t i j xs ys e a b = stands_bytes t i (xs ++ ys) (omega (arith, length-append xs ys, stands_room b)) each
  where
    each : (k : ℕ) → k < length (xs ++ ys) → get_or t (i + k) 0 ≡ get_or (xs ++ ys) k 0
    each k l = go (ltb k (length xs)) refl
      where
        go : (x : Bool) → ltb k (length xs) ≡ x → get_or t (i + k) 0 ≡ get_or (xs ++ ys) k 0
        go true x = let q = ltb-true k (length xs) x in stands_byte a k q ∙ sym (get_or-append xs ys 0 k q)
        go false x =
            let q = ltb-false k (length xs) x in
            let m = k - length xs in
            let at : i + k ≡ j + m = omega arith in
            let there : length xs + m ≡ k = omega arith in
            ap (λ z. get_or t z 0) at
            ∙ stands_byte b m (omega (arith, length-append xs ys))
            ∙ sym (ap (λ z. get_or (xs ++ ys) z 0) (sym there) ∙ get_or-append-add xs ys m 0)

-- ---- after a store
pub stands_stored : (l : List ℕ) (i : ℕ) (xs : List ℕ) → i + length xs ≤ length l → Stands (stored l i xs) i xs
stands_stored l i xs h =
    record {
      before = take i l;
      after = drop (i + length xs) l;
      whole = stored_is l i xs h ∙ append_assoc (take i l) xs (drop (i + length xs) l);
      start = length-take-le i l (omega arith);
    }

pub node_stored : (l : List ℕ) (k : ℕ) (xs : List ℕ) → node_size * k + length xs ≤ length l → Stands (stored l (node_size * k) xs) (nodes_start + node_size * k) xs
node_stored l k xs h = rw zero-add (stands_stored l (node_size * k) xs h)

-- ---- the frame: what lies below three numbers is as it was
pub record Kept (k c b : ℕ) (w w' : List ℕ) : Type 0 where
  pub same_length : length w' ≡ length w
  pub nodes : (i : ℕ) → i < node_size * k → get_or w' i 0 ≡ get_or w i 0
  pub cases : (i : ℕ) → i < case_size * c → get_or w' (cases_start + i) 0 ≡ get_or w (cases_start + i) 0
  pub bindings : (i : ℕ) → i < binding_size * b → get_or w' (bindings_start + i) 0 ≡ get_or w (bindings_start + i) 0

pub kept_refl : (k c b : ℕ) (w : List ℕ) → Kept k c b w w
kept_refl k c b w = record { same_length = refl; nodes = λ i l. refl; cases = λ i l. refl; bindings = λ i l. refl }

pub kept_trans : {k c b : ℕ} {u v w : List ℕ} → Kept k c b u v → Kept k c b v w → Kept k c b u w
kept_trans f g =
    record {
      same_length = g.same_length ∙ f.same_length;
      nodes = λ i l. g.nodes i l ∙ f.nodes i l;
      cases = λ i l. g.cases i l ∙ f.cases i l;
      bindings = λ i l. g.bindings i l ∙ f.bindings i l;
    }

pub kept_weaken : {k c b k' c' b' : ℕ} {w w' : List ℕ} → k' ≤ k → c' ≤ c → b' ≤ b → Kept k c b w w' → Kept k' c' b' w w'
kept_weaken x y z f =
    record {
      same_length = f.same_length;
      nodes = λ i l. f.nodes i (omega arith);
      cases = λ i l. f.cases i (omega arith);
      bindings = λ i l. f.bindings i (omega arith);
    }

-- a record stored at its number or at a later one, in the room of its section
pub kept_node : (k c b j : ℕ) (w xs : List ℕ) → k ≤ j → j < nodes_most → length xs ≡ node_size → Kept k c b w (stored w (node_size * j) xs)
kept_node k c b j w xs f g e =
    record {
      same_length = length_stored w (node_size * j) xs;
      nodes = λ i l. get_or_stored_below w (node_size * j) xs i 0 (omega arith);
      cases = λ i l. get_or_stored_above w (node_size * j) xs (cases_start + i) 0 (omega arith);
      bindings = λ i l. get_or_stored_above w (node_size * j) xs (bindings_start + i) 0 (omega arith);
    }

pub kept_case : (k c b i from : ℕ) (w xs : List ℕ) → k ≤ nodes_most → c ≤ i → i < cases_most → from + length xs ≤ case_size
    → Kept k c b w (stored w (cases_start + case_size * i + from) xs)
kept_case k c b i from w xs f g h e =
    record {
      same_length = length_stored w (cases_start + case_size * i + from) xs;
      nodes = λ j l. get_or_stored_below w (cases_start + case_size * i + from) xs j 0 (omega arith);
      cases = λ j l. get_or_stored_below w (cases_start + case_size * i + from) xs (cases_start + j) 0 (omega arith);
      bindings = λ j l. get_or_stored_above w (cases_start + case_size * i + from) xs (bindings_start + j) 0 (omega arith);
    }

-- ---- a tree held stays where its records do
-- what w has of the nodes from k to k', of the cases from c to c' and of the bindings from b to b', w' has too
pub record Carried (k c b k' c' b' : ℕ) (w w' : List ℕ) : Type 0 where
  pub nodes : (i : ℕ) (xs : List ℕ) → NodesStand arena_starts w i xs → k ≤ i → node_size * i + length xs ≤ node_size * k' → NodesStand arena_starts w' i xs
  pub cases : (i : ℕ) (xs : List ℕ) → CasesStand arena_starts w i xs → c ≤ i → case_size * i + length xs ≤ case_size * c' → CasesStand arena_starts w' i xs
  pub bindings : (table : List Path) (i : ℕ) (bs : List Binding) → BindingsStand arena_starts w table i bs → b ≤ i → i + length bs ≤ b' → BindingsStand arena_starts w' table i bs

module _ {k₀ c₀ b₀ k' c' b' : ℕ} {w w' : List ℕ} (f : Carried k₀ c₀ b₀ k' c' b' w w') (table : List Path) where
  mutual
    unfolding TreeStands nodes_in cases_in bindings_in node_bytes

    held_carried : (a : Tree) (k c b : ℕ) → Held w table k c b a → k₀ ≤ k → c₀ ≤ c → b₀ ≤ b → k + nodes_in a ≤ k' → c + cases_in a ≤ c' → b + length (bindings_in a) ≤ b'
        → Held w' table k c b a
    held_carried absent k c b h x y z x' y' z' = tt
    held_carried (leaf e bs) k c b h x y z x' y' z' =
        (f.nodes k _ h.0 x (omega arith), f.bindings table b bs h.1 z (omega arith))
    held_carried (hoist e bs a) k c b h x y z x' y' z' =
        let l = length-append bs (bindings_in a) in (
          f.nodes k _ h.0 x (omega arith),
          f.bindings table b bs h.1 z (omega arith),
          held_carried a (k + 1) c (b + length bs) h.2 (omega arith) y (omega arith) (omega arith) y' (omega arith),
        )
    held_carried (switch p cs d) k c b h x y z x' y' z' =
        let l = length-append (bindings_in_of cs) (bindings_in d) in (
          f.nodes k _ h.0 x (omega arith),
          f.cases c _ h.1 y (omega (arith, length_own_cases (k + 1) cs)),
          held_of_carried cs (k + 1) (c + how_many cs) b h.2 (omega arith) (omega arith) z (omega arith) (omega arith) (omega arith),
          held_carried d (k + 1 + nodes_in_of cs) (c + how_many cs + cases_in_of cs) (b + length (bindings_in_of cs)) h.3 (omega arith) (omega arith) (omega arith)
              (omega arith) (omega arith) (omega arith),
        )
    held_carried (listswitch p cs ts d) k c b h x y z x' y' z' =
        let l = length-append (bindings_in_of cs) (bindings_in_of ts ++ bindings_in d) in
        let m = length-append (bindings_in_of ts) (bindings_in d) in
        let c₁ = c + how_many cs + how_many ts in
        let k₂ = k + 1 + nodes_in_of cs in
        let c₂ = c₁ + cases_in_of cs in
        let b₂ = b + length (bindings_in_of cs) in (
          f.nodes k _ h.0 x (omega arith),
          f.cases c _ h.1 y
              (omega (arith, length-append (own_cases (k + 1) cs) (own_cases k₂ ts), length_own_cases (k + 1) cs, length_own_cases k₂ ts)),
          held_of_carried cs (k + 1) c₁ b h.2 (omega arith) (omega arith) z (omega arith) (omega arith) (omega arith),
          held_of_carried ts k₂ c₂ b₂ h.3 (omega arith) (omega arith) (omega arith) (omega arith) (omega arith) (omega arith),
          held_carried d (k₂ + nodes_in_of ts) (c₂ + cases_in_of ts) (b₂ + length (bindings_in_of ts)) h.4 (omega arith) (omega arith) (omega arith)
              (omega arith) (omega arith) (omega arith),
        )

    pub held_of_carried : (cs : Cases) (k c b : ℕ) → HeldOf w table k c b cs → k₀ ≤ k → c₀ ≤ c → b₀ ≤ b → k + nodes_in_of cs ≤ k' → c + cases_in_of cs ≤ c'
        → b + length (bindings_in_of cs) ≤ b' → HeldOf w' table k c b cs
    held_of_carried cnil k c b h x y z x' y' z' = tt
    held_of_carried (ccons u start a cs) k c b h x y z x' y' z' =
        let l = length-append (bindings_in a) (bindings_in_of cs) in (
          held_carried a k c b h.0 x y z (omega arith) (omega arith) (omega arith),
          held_of_carried cs (k + nodes_in a) (c + cases_in a) (b + length (bindings_in a)) h.1 (omega arith) (omega arith) (omega arith) (omega arith) (omega arith)
              (omega arith),
        )

module _ {k' c' b' : ℕ} {w w' : List ℕ} (f : Kept k' c' b' w w') where
  section_kept : (start size : ℕ) → ((i : ℕ) → i < size → get_or w' (start + i) 0 ≡ get_or w (start + i) 0) → (j : ℕ) (xs : List ℕ) → j + length xs ≤ size
      → Stands w (start + j) xs → Stands w' (start + j) xs
  section_kept start size same j xs l s =
      stands_bytes w' (start + j) xs (omega (arith, f.same_length, stands_room s))
      (λ i h.
      let e : start + j + i ≡ start + (j + i) = omega arith in
      ap (λ z. get_or w' z 0) e ∙ same (j + i) (omega arith) ∙ sym (ap (λ z. get_or w z 0) e) ∙ stands_byte s i h)

  pub nodes_kept : (k : ℕ) (xs : List ℕ) → node_size * k + length xs ≤ node_size * k' → Stands w (nodes_start + node_size * k) xs → Stands w' (nodes_start + node_size * k) xs
  nodes_kept k = section_kept nodes_start (node_size * k') (λ i l. rw zero-add (f.nodes i l)) (node_size * k)

  pub cases_kept : (c : ℕ) (xs : List ℕ) → case_size * c + length xs ≤ case_size * c' → Stands w (cases_start + case_size * c) xs → Stands w' (cases_start + case_size * c) xs
  cases_kept c = section_kept cases_start (case_size * c') f.cases (case_size * c)

  pub held_of_kept : (table : List Path) (k c b : ℕ) (cs : Cases) → k + nodes_in_of cs ≤ k' → c + cases_in_of cs ≤ c' → b + length (bindings_in_of cs) ≤ b' → HeldOf w table k c b cs
      → HeldOf w' table k c b cs
  held_of_kept table k c b cs x y z h = held_of_carried carried table cs k c b h (omega arith) (omega arith) (omega arith) x y z
    where
      carried : Carried 0 0 0 k' c' b' w w'
      carried =
          record {
            nodes = λ i xs s l m. nodes_kept i xs m s;
            cases = λ i xs s l m. cases_kept i xs m s;
            bindings = λ table i bs s l m.
                section_kept bindings_start (binding_size * b') f.bindings (binding_size * i) (bindings_bytes table bs) (omega (arith, length_bindings_bytes table bs)) s;
          }
