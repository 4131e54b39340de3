-- The hoisted tree's sections are the pieces of the nodes that it has before hoisting, one after another.
-- Rests on where nodes come to stand.
use Rattle.std.specs.Prelude.{◌≡◌, Bool, true, false}
use Rattle.std.proofs.Math.Path.{refl, sym, ap, ap₂}
use Rattle.std.proofs.Common.{◌∙◌, zero-add, add_assoc}
use mathlib.Core.List.{List, [], ◌∷◌, ◌++◌, append-nil, append_assoc}
use Prim.Native.Nat.{ℕ, zero, suc, ◌+◌}
use native.Mathlib.Omega.{arith}
use Rattle.std.proofs.Math.Nat.{add-zero}
use Rattle.std.proofs.Math.ListN.{length, length-append}
use Rattle.std.proofs.Math.Dec.{eqb}
use Rattle.spec_rules.specs.Kinds.{hoist_node}
use Rattle.spec_rules.specs.Rows.{Path, Binding}
use Rattle.spec_rules.specs.Searching.{times}
use Rattle.spec_rules.specs.Splitting.{Test}
use Rattle.spec_rules.specs.Building.{Tree, Cases, absent, leaf, hoist, switch, listswitch, cnil, ccons}
use Rattle.spec_rules.specs.Hoisting.{how_many, nodes_in, nodes_in_of, bindings_in, bindings_in_of}
use Rattle.spec_rules.specs.TreeFile.{binding_paths, paths_used, path_number, first_of, node_bytes, cases_in, cases_in_of, default_field, nodes_from, case_bytes, own_cases, cases_from, cases_from_of}
use Rattle.spec_hoist.specs.Trees.{Plain, PlainOf}
use Rattle.spec_hoist.specs.Descent.{wrap_by}
use Rattle.build_arena.specs.Numbered.{joined, subtrees, subtrees_of}
use Rattle.build_arena.specs.NumberedLaws.{nodes_in_of_joined, length_subtrees, length_subtrees_of}
use Rattle.build_scopes.specs.Numbers.{hoist_by_number, hoist_by_number_of}
use Rattle.build_scopes.specs.WriterLaws.{stands_at, hoists_at, stands_next, hoisted_nodes, hoisted_nodes_of}
use Rattle.build_file_nodes.specs.Pieces.{Piece, nothing, join, tree_piece, cases_piece, bound_piece, hoists_piece, shifted_cases, switch_piece, own_piece, above_piece, node_piece, over_piece}

-- ---- pieces one behind the other
join_nothing : (x : Piece) → join nothing x ≡ x
unfolding join nothing
join_nothing x =
    λ i.
    record {
      nodes = zero-add x.nodes i;
      node_bytes_holds = x.node_bytes_holds;
      cases = zero-add x.cases i;
      case_bytes_holds = x.case_bytes_holds;
      bindings = x.bindings;
      paths = x.paths;
    }

nothing_join : (x : Piece) → join x nothing ≡ x
unfolding join nothing
nothing_join x =
    λ i.
    record {
      nodes = add-zero x.nodes i;
      node_bytes_holds = append-nil x.node_bytes_holds i;
      cases = add-zero x.cases i;
      case_bytes_holds = append-nil x.case_bytes_holds i;
      bindings = append-nil x.bindings i;
      paths = append-nil x.paths i;
    }

join_assoc : (x y z : Piece) → join (join x y) z ≡ join x (join y z)
unfolding join
join_assoc x y z =
    λ i.
    record {
      nodes = add_assoc x.nodes y.nodes z.nodes i;
      node_bytes_holds = append_assoc x.node_bytes_holds y.node_bytes_holds z.node_bytes_holds i;
      cases = add_assoc x.cases y.cases z.cases i;
      case_bytes_holds = append_assoc x.case_bytes_holds y.case_bytes_holds z.case_bytes_holds i;
      bindings = append_assoc x.bindings y.bindings z.bindings i;
      paths = append_assoc x.paths y.paths z.paths i;
    }

-- ---- hoists over a node
hoist_piece : (table : List Path) (k c b x : ℕ) (bs : List Binding) (a : Tree)
    → tree_piece table k c b (hoist x bs a) ≡ join (bound_piece hoist_node x (k + 1) b bs) (tree_piece table (k + 1) c (b + length bs) a)
unfolding tree_piece join bound_piece
hoist_piece table k c b x bs a =
    let e : suc (nodes_in a) ≡ 1 + nodes_in a = omega arith in
    λ i.
    record {
      nodes = e i;
      node_bytes_holds = nodes_from table k c b (hoist x bs a);
      cases = sym (zero-add (cases_in a)) i;
      case_bytes_holds = cases_from (k + 1) a;
      bindings = bs ++ bindings_in a;
      paths = binding_paths bs ++ paths_used a;
    }

pub hoists_piece_on : (f : ℕ → Bool) (bs : ℕ → List Binding) (k b i n : ℕ) → f i ≡ true
    → hoists_piece f bs k b i (suc n) ≡ join (bound_piece hoist_node i (k + 1) b (bs i)) (hoists_piece f bs (k + 1) (b + length (bs i)) (i + 1) n)
unfolding hoists_piece
hoists_piece_on f bs k b i n e = rw (hoists_piece, e)

pub hoists_piece_past : (f : ℕ → Bool) (bs : ℕ → List Binding) (k b i n : ℕ) → f i ≡ false → hoists_piece f bs k b i (suc n) ≡ hoists_piece f bs k b (i + 1) n
unfolding hoists_piece
hoists_piece_past f bs k b i n e = rw (hoists_piece, e)

-- what a list of hoists counts
pub record HoistsCount (f : ℕ → Bool) (bs : ℕ → List Binding) (k b i n : ℕ) : Type 0 where
  pub nodes_are : (hoists_piece f bs k b i n).nodes ≡ times f i n
  pub no_cases : (hoists_piece f bs k b i n).cases ≡ 0

pub hoists_count : (f : ℕ → Bool) (bs : ℕ → List Binding) (k b i n : ℕ) → HoistsCount f bs k b i n
unfolding hoists_piece nothing join bound_piece times
hoists_count f bs k b i zero = record { nodes_are = refl; no_cases = refl }
hoists_count f bs k b i (suc n) = go (f i) refl (hoists_count f bs (k + 1) (b + length (bs i)) (i + 1) n) (hoists_count f bs k b (i + 1) n)
  where
    go : (t : Bool) → f i ≡ t → HoistsCount f bs (k + 1) (b + length (bs i)) (i + 1) n → HoistsCount f bs k b (i + 1) n → HoistsCount f bs k b i (suc n)
    go true e on past =
        let p = hoists_piece_on f bs k b i n e in
        record {
          nodes_are = ap (λ z. z.nodes) p ∙ rw (times, e) (omega (arith, on.nodes_are));
          no_cases = ap (λ z. z.cases) p ∙ omega (arith, on.no_cases);
        }
    go false e on past =
        let p = hoists_piece_past f bs k b i n e in
        record {
          nodes_are = ap (λ z. z.nodes) p ∙ rw (times, e) past.nodes_are;
          no_cases = ap (λ z. z.cases) p ∙ past.no_cases;
        }

-- THEOREM: hoists over a tree stand before it
wrap_piece : (table : List Path) (f : ℕ → Bool) (bs : ℕ → List Binding) (k c b i n j d : ℕ) (a : Tree) → k + times f i n ≡ j
    → b + length (hoists_piece f bs k b i n).bindings ≡ d
    → tree_piece table k c b (wrap_by f bs i n a) ≡ join (hoists_piece f bs k b i n) (tree_piece table j c d a)
unfolding wrap_by times hoists_piece nothing
wrap_piece table f bs k c b i zero j d a e g =
    let x : k ≡ j = omega arith in
    let y : b ≡ d = omega arith in
    rw (x, y) (sym (join_nothing (tree_piece table j c d a)))
wrap_piece table f bs k c b i (suc n) j d a e g =
    go (f i) refl (wrap_piece table f bs (k + 1) c (b + length (bs i)) (i + 1) n j d a) (wrap_piece table f bs k c b (i + 1) n j d a)
  where
    on : ℕ → ℕ → Piece
    on x y = hoists_piece f bs x y (i + 1) n

    go : (t : Bool) → f i ≡ t
        → (k + 1 + times f (i + 1) n ≡ j → b + length (bs i) + length (on (k + 1) (b + length (bs i))).bindings ≡ d
        → tree_piece table (k + 1) c (b + length (bs i)) (wrap_by f bs (i + 1) n a) ≡ join (on (k + 1) (b + length (bs i))) (tree_piece table j c d a))
        → (k + times f (i + 1) n ≡ j → b + length (on k b).bindings ≡ d → tree_piece table k c b (wrap_by f bs (i + 1) n a) ≡ join (on k b) (tree_piece table j c d a))
        → tree_piece table k c b (wrap_by f bs i (suc n) a) ≡ join (hoists_piece f bs k b i (suc n)) (tree_piece table j c d a)
    go true x first rest =
        let p = hoists_piece_on f bs k b i n x in
        let l : b + length (bs i ++ (on (k + 1) (b + length (bs i))).bindings) ≡ d = ap (λ z. b + length z.bindings) (sym p) ∙ g in
        let m : k + suc (times f (i + 1) n) ≡ j = rw (times, x) at e in
        let q : tree_piece table k c b (wrap_by f bs i (suc n) a) ≡ tree_piece table k c b (hoist i (bs i) (wrap_by f bs (i + 1) n a)) = rw (wrap_by, x) in
        q
        ∙ hoist_piece table k c b i (bs i) (wrap_by f bs (i + 1) n a)
        ∙ ap (join (bound_piece hoist_node i (k + 1) b (bs i))) (first (omega arith) (omega (arith, length-append (bs i) (on (k + 1) (b + length (bs i))).bindings)))
        ∙ sym (join_assoc (bound_piece hoist_node i (k + 1) b (bs i)) (on (k + 1) (b + length (bs i))) (tree_piece table j c d a))
        ∙ ap (λ z. join z (tree_piece table j c d a)) (sym p)
    go false x first rest =
        let p = hoists_piece_past f bs k b i n x in
        let l : b + length (on k b).bindings ≡ d = ap (λ z. b + length z.bindings) (sym p) ∙ g in
        let m : k + times f (i + 1) n ≡ j = rw (times, x) at e in
        let q : tree_piece table k c b (wrap_by f bs i (suc n) a) ≡ tree_piece table k c b (wrap_by f bs (i + 1) n a) = rw (wrap_by, x) in
        q ∙ rest m l ∙ ap (λ z. join z (tree_piece table j c d a)) (sym p)

-- ---- a switch's record, and what stands below it
-- a switch of either kind from its fields, with so many cases and their records
head_piece : ℕ → ℕ → ℕ → ℕ → ℕ → ℕ → ℕ → List ℕ → Path → Piece
head_piece kind number first cases tails default count bytes p =
    record { nodes = 1; node_bytes_holds = node_bytes kind number first cases tails default; cases = count; case_bytes_holds = bytes; bindings = []; paths = p ∷ [] }

module _ (table : List Path) (k c b : ℕ) (p : Path) (cs : Cases) where
  switch_piece_lem : (d : Tree)
      → tree_piece table k c b (switch p cs d)
      ≡ join
      (head_piece 0 (path_number table p) (first_of (how_many cs) c) (how_many cs) 0 (default_field (k + 1 + nodes_in_of cs) d) (how_many cs) (own_cases (k + 1) cs) p)
      (join (cases_piece table (k + 1) (c + how_many cs) b cs) (tree_piece table (k + 1 + nodes_in_of cs) (c + how_many cs + cases_in_of cs) (b + length (bindings_in_of cs)) d))
  unfolding tree_piece cases_piece join head_piece
  switch_piece_lem d =
      let e : suc (nodes_in_of cs + nodes_in d) ≡ 1 + (nodes_in_of cs + nodes_in d) = omega arith in
      λ i.
      record {
        nodes = e i;
        node_bytes_holds = nodes_from table k c b (switch p cs d);
        cases = cases_in (switch p cs d);
        case_bytes_holds = cases_from k (switch p cs d);
        bindings = bindings_in (switch p cs d);
        paths = paths_used (switch p cs d);
      }

  list_switch_piece : (ts : Cases) (d : Tree)
      → tree_piece table k c b (listswitch p cs ts d)
      ≡ join
      (head_piece 1 (path_number table p) (first_of (how_many cs + how_many ts) c) (how_many cs) (how_many ts) (default_field (k + 1 + nodes_in_of cs + nodes_in_of ts) d) (how_many cs + how_many ts)
      (own_cases (k + 1) cs ++ own_cases (k + 1 + nodes_in_of cs) ts) p)
      (join (cases_piece table (k + 1) (c + how_many cs + how_many ts) b cs)
      (join (cases_piece table (k + 1 + nodes_in_of cs) (c + how_many cs + how_many ts + cases_in_of cs) (b + length (bindings_in_of cs)) ts)
      (tree_piece table (k + 1 + nodes_in_of cs + nodes_in_of ts) (c + how_many cs + how_many ts + cases_in_of cs + cases_in_of ts) (b + length (bindings_in_of cs) + length (bindings_in_of ts)) d)))
  unfolding tree_piece cases_piece join head_piece
  list_switch_piece ts d =
      let e : suc (nodes_in_of cs + (nodes_in_of ts + nodes_in d)) ≡ 1 + (nodes_in_of cs + (nodes_in_of ts + nodes_in d)) = omega arith in
      λ i.
      record {
        nodes = e i;
        node_bytes_holds = nodes_from table k c b (listswitch p cs ts d);
        cases = sym (add_assoc (how_many cs) (how_many ts) (cases_in_of cs + (cases_in_of ts + cases_in d))) i;
        case_bytes_holds =
            sym (append_assoc (own_cases (k + 1) cs) (own_cases (k + 1 + nodes_in_of cs) ts)
            (cases_from_of (k + 1) cs ++ (cases_from_of (k + 1 + nodes_in_of cs) ts ++ cases_from (k + 1 + nodes_in_of cs + nodes_in_of ts) d))) i;
        bindings = bindings_in (listswitch p cs ts d);
        paths = paths_used (listswitch p cs ts d);
      }

-- ---- what hoisting leaves as it is
pub how_many_hoisted : (node : ℕ → ℕ) (bs : ℕ → List Binding) (n k : ℕ) (cs : Cases) → how_many (hoist_by_number_of node bs n k cs) ≡ how_many cs
unfolding hoist_by_number_of how_many
how_many_hoisted node bs n k cnil = refl
how_many_hoisted node bs n k (ccons t at a cs) = ap suc (how_many_hoisted node bs n (k + nodes_in a) cs)

default_wrapped : (f : ℕ → Bool) (bs : ℕ → List Binding) (j i n : ℕ) (a : Tree) → default_field j a ≡ suc j → default_field j (wrap_by f bs i n a) ≡ suc j
unfolding wrap_by default_field
default_wrapped f bs j i zero a e = e
default_wrapped f bs j i (suc n) a e = go (f i) refl (default_wrapped f bs j (i + 1) n a e)
  where
    go : (t : Bool) → f i ≡ t → default_field j (wrap_by f bs (i + 1) n a) ≡ suc j → default_field j (wrap_by f bs i (suc n) a) ≡ suc j
    go true x ih = rw (wrap_by, x)
    go false x ih = rw (wrap_by, x) ih

default_hoisted : (node : ℕ → ℕ) (bs : ℕ → List Binding) (n j k : ℕ) (a : Tree) → default_field j (hoist_by_number node bs n k a) ≡ default_field j a
unfolding hoist_by_number default_field
default_hoisted node bs n j k absent = refl
default_hoisted node bs n j k (leaf c xs) = default_wrapped (λ x. eqb (node x) k) bs j 0 n (leaf c xs) refl
default_hoisted node bs n j k (hoist c xs a) = refl
default_hoisted node bs n j k (switch p cs d) =
    default_wrapped (λ x. eqb (node x) k) bs j 0 n (switch p (hoist_by_number_of node bs n (k + 1) cs) (hoist_by_number node bs n (k + 1 + nodes_in_of cs) d)) refl
default_hoisted node bs n j k (listswitch p cs ts d) =
    default_wrapped (λ x. eqb (node x) k) bs j 0 n
    (listswitch p (hoist_by_number_of node bs n (k + 1) cs) (hoist_by_number_of node bs n (k + 1 + nodes_in_of cs) ts)
    (hoist_by_number node bs n (k + 1 + nodes_in_of cs + nodes_in_of ts) d))
    refl

module _ (table : List Path) (node : ℕ → ℕ) (n : ℕ) (bs : ℕ → List Binding) where
  abbrev stands : ℕ → ℕ
  stands k = stands_at node n k

  abbrev hoisted : ℕ → Tree → Tree
  hoisted k a = hoist_by_number node bs n k a

  abbrev hoisted_of : ℕ → Cases → Cases
  hoisted_of k cs = hoist_by_number_of node bs n k cs

  abbrev over : ℕ → ℕ → ℕ → List Tree → Piece
  over k c b ss = over_piece table node n bs k c b ss

  abbrev above : ℕ → ℕ → Piece
  above k b = above_piece table node n bs k b

  abbrev own : ℕ → ℕ → ℕ → Tree → Piece
  own k c b s = own_piece table node n k c b s

  shifted_own : (k : ℕ) (cs : Cases) → PlainOf cs → own_cases (stands k) (hoisted_of k cs) ≡ shifted_cases table node n k cs
  unfolding shifted_cases hoist_by_number_of own_cases PlainOf
  shifted_own k cnil p = refl
  shifted_own k (ccons t at a cs) p =
      ap (λ z. case_bytes t at (stands k) ++ own_cases z (hoisted_of (k + nodes_in a) cs)) (hoisted_nodes node n bs k a p.0)
      ∙ ap (λ z. case_bytes t at (stands k) ++ z) (shifted_own (k + nodes_in a) cs p.1)

  shifted_joined : (k j : ℕ) (cs ts : Cases) → k + nodes_in_of cs ≡ j → shifted_cases table node n k (joined cs ts) ≡ shifted_cases table node n k cs ++ shifted_cases table node n j ts
  unfolding shifted_cases joined nodes_in_of
  shifted_joined k j cnil ts e = let x : k ≡ j = omega arith in ap (λ z. shifted_cases table node n z ts) x
  shifted_joined k j (ccons t at a cs) ts e =
      ap (λ z. case_bytes t at (stands k) ++ z) (shifted_joined (k + nodes_in a) j cs ts (omega arith))
      ∙ sym (append_assoc (case_bytes t at (stands k)) (shifted_cases table node n (k + nodes_in a) cs) (shifted_cases table node n j ts))

  -- ---- pieces over lists of nodes
  over_append : (k c b j c₂ b₂ : ℕ) (xs ys : List Tree) → k + length xs ≡ j → c + (over k c b xs).cases ≡ c₂ → b + length (over k c b xs).bindings ≡ b₂
      → over k c b (xs ++ ys) ≡ join (over k c b xs) (over j c₂ b₂ ys)
  unfolding over_piece nothing join
  over_append k c b j c₂ b₂ [] ys e f g =
      let x : k ≡ j = omega arith in
      let y : c ≡ c₂ = omega arith in
      let z : b ≡ b₂ = omega arith in
      rw (x, y, z) (sym (join_nothing (over j c₂ b₂ ys)))
  over_append k c b j c₂ b₂ (x ∷ xs) ys e f g =
      let first = node_piece table node n bs k c b x in
      let c₁ = c + first.cases in
      let b₁ = b + length first.bindings in
      ap (join first) (over_append (k + 1) c₁ b₁ j c₂ b₂ xs ys (omega arith) (omega arith) (omega (arith, length-append first.bindings (over (k + 1) c₁ b₁ xs).bindings)))
      ∙ sym (join_assoc first (over (k + 1) c₁ b₁ xs) (over j c₂ b₂ ys))

  -- a node's hoists, the node, and what follows
  over_node : (k c b c₁ b₁ : ℕ) (s : Tree) (ss : List Tree) → c + (own k c (b + length (above k b).bindings) s).cases ≡ c₁
      → b + length (above k b).bindings + length (own k c (b + length (above k b).bindings) s).bindings ≡ b₁
      → join (above k b) (join (own k c (b + length (above k b).bindings) s) (over (k + 1) c₁ b₁ ss)) ≡ over k c b (s ∷ ss)
  unfolding over_piece node_piece join above_piece
  over_node k c b c₁ b₁ s ss e f =
      let up = above k b in
      let me = own k c (b + length up.bindings) s in
      let x : c₁ ≡ c + (up.cases + me.cases) = omega (arith, (hoists_count (λ x. eqb (node x) k) bs (stands k) b 0 n).no_cases) in
      let y : b₁ ≡ b + length (up.bindings ++ me.bindings) = omega (arith, length-append up.bindings me.bindings) in
      rw (x, y) (sym (join_assoc up me (over (k + 1) (c + (up.cases + me.cases)) (b + length (up.bindings ++ me.bindings)) ss)))

  -- ---- the hoisted tree
  -- a node's hoists, and the hoisted node under them
  above_piece_lem : (k c b : ℕ) (a : Tree)
      → tree_piece table (stands k) c b (wrap_by (λ x. eqb (node x) k) bs 0 n a)
      ≡ join (above k b) (tree_piece table (stands k + hoists_at node n k) c (b + length (above k b).bindings) a)
  unfolding above_piece hoists_at
  above_piece_lem k c b a =
      wrap_piece table (λ x. eqb (node x) k) bs (stands k) c b 0 n (stands k + hoists_at node n k) (b + length (above k b).bindings) a refl refl

  module _ (k c b : ℕ) (p : Path) (cs : Cases) (pc : PlainOf cs) where
    abbrev at : ℕ
    at = stands k + hoists_at node n k

    abbrev count : ℕ
    count = how_many (hoisted_of (k + 1) cs)

    next_at : at + 1 ≡ stands (k + 1)
    next_at = sym (stands_next node n k)

    past_at : at + 1 + nodes_in_of (hoisted_of (k + 1) cs) ≡ stands (k + 1 + nodes_in_of cs)
    past_at = ap (λ z. z + nodes_in_of (hoisted_of (k + 1) cs)) next_at ∙ hoisted_nodes_of node n bs (k + 1) cs pc

    switch_own : (d : Tree)
        → head_piece 0 (path_number table p) (first_of count c) count 0 (default_field (at + 1 + nodes_in_of (hoisted_of (k + 1) cs)) (hoisted (k + 1 + nodes_in_of cs) d)) count
        (own_cases (at + 1) (hoisted_of (k + 1) cs)) p
        ≡ own k c b (switch p cs d)
    unfolding head_piece own_piece switch_piece
    switch_own d =
        let h = how_many_hoisted node bs n (k + 1) cs in
        let h₀ : count ≡ how_many cs + 0 = h ∙ sym (add-zero (how_many cs)) in
        let e : default_field (at + 1 + nodes_in_of (hoisted_of (k + 1) cs)) (hoisted (k + 1 + nodes_in_of cs) d) ≡ default_field (stands (k + 1 + nodes_in_of cs)) d =
        default_hoisted node bs n (at + 1 + nodes_in_of (hoisted_of (k + 1) cs)) (k + 1 + nodes_in_of cs) d ∙ ap (λ z. default_field z d) past_at in
        let o : own_cases (at + 1) (hoisted_of (k + 1) cs) ≡ shifted_cases table node n (k + 1) cs =
        ap (λ z. own_cases z (hoisted_of (k + 1) cs)) next_at ∙ shifted_own (k + 1) cs pc in
        λ i.
        record {
          nodes = 1;
          node_bytes_holds = node_bytes 0 (path_number table p) (first_of (h₀ i) c) (h i) 0 (e i);
          cases = h₀ i;
          case_bytes_holds = o i;
          bindings = [];
          paths = p ∷ [];
        }

    list_switch_own : (ts : Cases) (pt : PlainOf ts) (d : Tree)
        → head_piece 1 (path_number table p) (first_of (count + how_many (hoisted_of (k + 1 + nodes_in_of cs) ts)) c) count (how_many (hoisted_of (k + 1 + nodes_in_of cs) ts))
        (default_field (at + 1 + nodes_in_of (hoisted_of (k + 1) cs) + nodes_in_of (hoisted_of (k + 1 + nodes_in_of cs) ts)) (hoisted (k + 1 + nodes_in_of cs + nodes_in_of ts) d))
        (count + how_many (hoisted_of (k + 1 + nodes_in_of cs) ts))
        (own_cases (at + 1) (hoisted_of (k + 1) cs) ++ own_cases (at + 1 + nodes_in_of (hoisted_of (k + 1) cs)) (hoisted_of (k + 1 + nodes_in_of cs) ts)) p
        ≡ own k c b (listswitch p cs ts d)
    unfolding head_piece own_piece switch_piece
    list_switch_own ts pt d =
        let k₂ = k + 1 + nodes_in_of cs in
        let k₃ = k₂ + nodes_in_of ts in
        let h = how_many_hoisted node bs n (k + 1) cs in
        let g = how_many_hoisted node bs n k₂ ts in
        let three : at + 1 + nodes_in_of (hoisted_of (k + 1) cs) + nodes_in_of (hoisted_of k₂ ts) ≡ stands (k + 1 + nodes_in_of (joined cs ts)) =
        ap (λ z. z + nodes_in_of (hoisted_of k₂ ts)) past_at ∙ hoisted_nodes_of node n bs k₂ ts pt ∙ ap stands (omega (arith, nodes_in_of_joined cs ts)) in
        let e : default_field (at + 1 + nodes_in_of (hoisted_of (k + 1) cs) + nodes_in_of (hoisted_of k₂ ts)) (hoisted k₃ d) ≡ default_field (stands (k + 1 + nodes_in_of (joined cs ts))) d =
        default_hoisted node bs n (at + 1 + nodes_in_of (hoisted_of (k + 1) cs) + nodes_in_of (hoisted_of k₂ ts)) k₃ d ∙ ap (λ z. default_field z d) three in
        let o : own_cases (at + 1) (hoisted_of (k + 1) cs) ++ own_cases (at + 1 + nodes_in_of (hoisted_of (k + 1) cs)) (hoisted_of k₂ ts) ≡ shifted_cases table node n (k + 1) (joined cs ts) =
        ap₂ (λ y z. y ++ z) (ap (λ z. own_cases z (hoisted_of (k + 1) cs)) next_at ∙ shifted_own (k + 1) cs pc)
        (ap (λ z. own_cases z (hoisted_of k₂ ts)) past_at ∙ shifted_own k₂ ts pt)
        ∙ sym (shifted_joined (k + 1) k₂ cs ts refl) in
        λ i.
        record {
          nodes = 1;
          node_bytes_holds = node_bytes 1 (path_number table p) (first_of (h i + g i) c) (h i) (g i) (e i);
          cases = h i + g i;
          case_bytes_holds = o i;
          bindings = [];
          paths = p ∷ [];
        }

  own_cases_lem : (k c b : ℕ) (p : Path) (cs : Cases) (d : Tree) → (own k c b (switch p cs d)).cases ≡ how_many cs
  unfolding own_piece switch_piece
  own_cases_lem k c b p cs d = add-zero (how_many cs)

  list_own_cases : (k c b : ℕ) (p : Path) (cs ts : Cases) (d : Tree) → c + (own k c b (listswitch p cs ts d)).cases ≡ c + how_many cs + how_many ts
  unfolding own_piece switch_piece
  list_own_cases k c b p cs ts d = omega arith

  own_binds : (k c b m : ℕ) (p : Path) (cs : Cases) (d : Tree) → m + length (own k c b (switch p cs d)).bindings ≡ m
  unfolding own_piece switch_piece
  own_binds k c b m p cs d = add-zero m

  list_own_binds : (k c b m : ℕ) (p : Path) (cs ts : Cases) (d : Tree) → m + length (own k c b (listswitch p cs ts d)).bindings ≡ m
  unfolding own_piece switch_piece
  list_own_binds k c b m p cs ts d = add-zero m

  first_piece : (k c b : ℕ) (t : Test) (start : ℕ) (a : Tree) (cs : Cases)
      → cases_piece table k c b (ccons t start a cs) ≡ join (tree_piece table k c b a) (cases_piece table (k + nodes_in a) (c + cases_in a) (b + length (bindings_in a)) cs)
  unfolding cases_piece tree_piece join
  first_piece k c b t start a cs = refl

  first_over : (k c b j : ℕ) (a : Tree) (rest : List Tree) → k + nodes_in a ≡ j → tree_piece table (stands k) c b (hoisted k a) ≡ over k c b (subtrees a)
      → join (over k c b (subtrees a)) (over j (c + cases_in (hoisted k a)) (b + length (bindings_in (hoisted k a))) rest) ≡ over k c b (subtrees a ++ rest)
  unfolding tree_piece
  first_over k c b j a rest l e =
      sym (over_append k c b j (c + cases_in (hoisted k a)) (b + length (bindings_in (hoisted k a))) (subtrees a) rest (omega (arith, length_subtrees a)) (ap (λ z. c + z.cases) (sym e))
      (ap (λ z. b + length z.bindings) (sym e)))

  none_over : (k c b : ℕ) → tree_piece table (stands k) c b absent ≡ over k c b []
  unfolding tree_piece over_piece nothing
  none_over k c b = refl

  none_over_of : (k c b : ℕ) → cases_piece table (stands k) c b cnil ≡ over k c b []
  unfolding cases_piece over_piece nothing
  none_over_of k c b = refl

  leaf_own : (k c b : ℕ) (x : ℕ) (xs : List Binding) → tree_piece table (stands k + hoists_at node n k) c b (leaf x xs) ≡ join (own k c b (leaf x xs)) nothing
  unfolding tree_piece own_piece bound_piece
  leaf_own k c b x xs = sym (nothing_join (own k c b (leaf x xs)))

  leaf_over : (k c b : ℕ) (x : ℕ) (xs : List Binding) → tree_piece table (stands k) c b (hoisted k (leaf x xs)) ≡ over k c b (leaf x xs ∷ [])
  unfolding hoist_by_number over_piece
  leaf_over k c b x xs =
      let b₁ = b + length (above k b).bindings in
      let s : Tree = leaf x xs in
      above_piece_lem k c b s
      ∙ ap (join (above k b)) (leaf_own k c b₁ x xs)
      ∙ over_node k c b (c + (own k c b₁ s).cases) (b₁ + length (own k c b₁ s).bindings) s [] refl refl

  -- the cases' trees, then the rest
  below_over : (k c b j c₂ b₂ : ℕ) (cs : Cases) (rest : List Tree) → k + nodes_in_of cs ≡ j
      → cases_piece table (stands k) c b (hoisted_of k cs) ≡ over k c b (subtrees_of cs)
      → c + cases_in_of (hoisted_of k cs) ≡ c₂ → b + length (bindings_in_of (hoisted_of k cs)) ≡ b₂
      → join (cases_piece table (stands k) c b (hoisted_of k cs)) (over j c₂ b₂ rest) ≡ over k c b (subtrees_of cs ++ rest)
  unfolding cases_piece
  below_over k c b j c₂ b₂ cs rest l e f g =
      ap (λ z. join z (over j c₂ b₂ rest)) e
      ∙ sym (over_append k c b j c₂ b₂ (subtrees_of cs) rest (omega (arith, length_subtrees_of cs)) (ap (λ z. c + z.cases) (sym e) ∙ f) (ap (λ z. b + length z.bindings) (sym e) ∙ g))

  switch_over : (k c b : ℕ) (p : Path) (cs : Cases) (pc : PlainOf cs) (d : Tree)
      → ((c₂ b₂ : ℕ) → tree_piece table (stands (k + 1 + nodes_in_of cs)) c₂ b₂ (hoisted (k + 1 + nodes_in_of cs) d) ≡ over (k + 1 + nodes_in_of cs) c₂ b₂ (subtrees d))
      → cases_piece table (stands (k + 1)) (c + how_many cs) (b + length (above k b).bindings) (hoisted_of (k + 1) cs) ≡ over (k + 1) (c + how_many cs) (b + length (above k b).bindings) (subtrees_of cs)
      → tree_piece table (stands k) c b (hoisted k (switch p cs d)) ≡ over k c b (subtrees (switch p cs d))
  unfolding hoist_by_number subtrees
  switch_over k c b p cs pc d ihd ihc =
      let s : Tree = switch p cs d in
      let b₁ = b + length (above k b).bindings in
      let at = stands k + hoists_at node n k in
      let k₂ = k + 1 + nodes_in_of cs in
      let cs₂ = hoisted_of (k + 1) cs in
      let d₂ = hoisted k₂ d in
      let c₁ = c + how_many cs in
      let h = how_many_hoisted node bs n (k + 1) cs in
      let c₂ = c₁ + cases_in_of cs₂ in
      let b₂ = b₁ + length (bindings_in_of cs₂) in
      let below : join (cases_piece table (at + 1) (c + how_many cs₂) b₁ cs₂) (tree_piece table (at + 1 + nodes_in_of cs₂) (c + how_many cs₂ + cases_in_of cs₂) b₂ d₂)
      ≡ over (k + 1) c₁ b₁ (subtrees_of cs ++ subtrees d) =
      rw (next_at k c b p cs pc, hoisted_nodes_of node n bs (k + 1) cs pc, h)
      (ap (join (cases_piece table (stands (k + 1)) c₁ b₁ cs₂)) (ihd c₂ b₂)
      ∙ below_over (k + 1) c₁ b₁ k₂ c₂ b₂ cs (subtrees d) refl ihc refl refl) in
      above_piece_lem k c b (switch p cs₂ d₂)
      ∙ ap (join (above k b)) (switch_piece_lem table at c b₁ p cs₂ d₂ ∙ ap₂ join (switch_own k c b₁ p cs pc d) below)
      ∙ over_node k c b c₁ b₁ s (subtrees_of cs ++ subtrees d) (ap (λ z. c + z) (own_cases_lem k c b₁ p cs d)) (own_binds k c b₁ b₁ p cs d)

  list_switch_over : (k c b : ℕ) (p : Path) (cs : Cases) (pc : PlainOf cs) (ts : Cases) (pt : PlainOf ts) (d : Tree)
      → ((c₃ b₃ : ℕ) → tree_piece table (stands (k + 1 + nodes_in_of cs + nodes_in_of ts)) c₃ b₃ (hoisted (k + 1 + nodes_in_of cs + nodes_in_of ts) d)
      ≡ over (k + 1 + nodes_in_of cs + nodes_in_of ts) c₃ b₃ (subtrees d))
      → ((c₂ b₂ : ℕ) → cases_piece table (stands (k + 1 + nodes_in_of cs)) c₂ b₂ (hoisted_of (k + 1 + nodes_in_of cs) ts) ≡ over (k + 1 + nodes_in_of cs) c₂ b₂ (subtrees_of ts))
      → cases_piece table (stands (k + 1)) (c + how_many cs + how_many ts) (b + length (above k b).bindings) (hoisted_of (k + 1) cs)
      ≡ over (k + 1) (c + how_many cs + how_many ts) (b + length (above k b).bindings) (subtrees_of cs)
      → tree_piece table (stands k) c b (hoisted k (listswitch p cs ts d)) ≡ over k c b (subtrees (listswitch p cs ts d))
  unfolding hoist_by_number subtrees
  list_switch_over k c b p cs pc ts pt d ihd iht ihc =
      let s : Tree = listswitch p cs ts d in
      let b₁ = b + length (above k b).bindings in
      let at = stands k + hoists_at node n k in
      let k₂ = k + 1 + nodes_in_of cs in
      let k₃ = k₂ + nodes_in_of ts in
      let cs₂ = hoisted_of (k + 1) cs in
      let ts₂ = hoisted_of k₂ ts in
      let d₂ = hoisted k₃ d in
      let c₁ = c + how_many cs + how_many ts in
      let c₂ = c₁ + cases_in_of cs₂ in
      let b₂ = b₁ + length (bindings_in_of cs₂) in
      let c₃ = c₂ + cases_in_of ts₂ in
      let b₃ = b₂ + length (bindings_in_of ts₂) in
      let below : join (cases_piece table (at + 1) (c + how_many cs₂ + how_many ts₂) b₁ cs₂)
      (join (cases_piece table (at + 1 + nodes_in_of cs₂) (c + how_many cs₂ + how_many ts₂ + cases_in_of cs₂) b₂ ts₂)
      (tree_piece table (at + 1 + nodes_in_of cs₂ + nodes_in_of ts₂) (c + how_many cs₂ + how_many ts₂ + cases_in_of cs₂ + cases_in_of ts₂) b₃ d₂))
      ≡ over (k + 1) c₁ b₁ (subtrees_of cs ++ (subtrees_of ts ++ subtrees d)) =
      rw (next_at k c b p cs pc, hoisted_nodes_of node n bs (k + 1) cs pc, hoisted_nodes_of node n bs k₂ ts pt, how_many_hoisted node bs n (k + 1) cs, how_many_hoisted node bs n k₂ ts)
      (ap (λ z. join (cases_piece table (stands (k + 1)) c₁ b₁ cs₂) (join (cases_piece table (stands k₂) c₂ b₂ ts₂) z)) (ihd c₃ b₃)
      ∙ ap (join (cases_piece table (stands (k + 1)) c₁ b₁ cs₂)) (below_over k₂ c₂ b₂ k₃ c₃ b₃ ts (subtrees d) refl (iht c₂ b₂) refl refl)
      ∙ below_over (k + 1) c₁ b₁ k₂ c₂ b₂ cs (subtrees_of ts ++ subtrees d) refl ihc refl refl) in
      above_piece_lem k c b (listswitch p cs₂ ts₂ d₂)
      ∙ ap (join (above k b)) (list_switch_piece table at c b₁ p cs₂ ts₂ d₂ ∙ ap₂ join (list_switch_own k c b₁ p cs pc ts pt d) below)
      ∙ over_node k c b c₁ b₁ s (subtrees_of cs ++ (subtrees_of ts ++ subtrees d)) (list_own_cases k c b₁ p cs ts d) (list_own_binds k c b₁ b₁ p cs ts d)

  cons_over : (k c b : ℕ) (t : Test) (start : ℕ) (a : Tree) (cs : Cases) → Plain a → tree_piece table (stands k) c b (hoisted k a) ≡ over k c b (subtrees a)
      → ((c₂ b₂ : ℕ) → cases_piece table (stands (k + nodes_in a)) c₂ b₂ (hoisted_of (k + nodes_in a) cs) ≡ over (k + nodes_in a) c₂ b₂ (subtrees_of cs))
      → cases_piece table (stands k) c b (hoisted_of k (ccons t start a cs)) ≡ over k c b (subtrees_of (ccons t start a cs))
  unfolding hoist_by_number subtrees
  cons_over k c b t start a cs q iha ihc =
      let a₂ = hoisted k a in
      let k₂ = k + nodes_in a in
      let cs₂ = hoisted_of k₂ cs in
      let c₂ = c + cases_in a₂ in
      let b₂ = b + length (bindings_in a₂) in
      first_piece (stands k) c b t start a₂ cs₂
      ∙ rw (hoisted_nodes node n bs k a q) (ap₂ join iha (ihc c₂ b₂) ∙ first_over k c b k₂ a (subtrees_of cs) refl iha)

  mutual
    unfolding hoist_by_number subtrees Plain

    -- THEOREM: the pieces of the nodes, one after another, are the hoisted tree
    pub hoisted_piece : (k c b : ℕ) (a : Tree) → Plain a → tree_piece table (stands k) c b (hoisted k a) ≡ over k c b (subtrees a)
    hoisted_piece k c b absent q = none_over k c b
    hoisted_piece k c b (leaf x xs) q = leaf_over k c b x xs
    hoisted_piece k c b (hoist x xs a) q = absurd q
    hoisted_piece k c b (switch p cs d) q =
        let b₁ = b + length (above k b).bindings in
        switch_over k c b p cs q.0 d
        (λ c₂ b₂. hoisted_piece (k + 1 + nodes_in_of cs) c₂ b₂ d q.1) (hoisted_piece_of (k + 1) (c + how_many cs) b₁ cs q.0)
    hoisted_piece k c b (listswitch p cs ts d) q =
        let b₁ = b + length (above k b).bindings in
        list_switch_over k c b p cs q.0 ts q.1 d
        (λ c₃ b₃. hoisted_piece (k + 1 + nodes_in_of cs + nodes_in_of ts) c₃ b₃ d q.2)
        (λ c₂ b₂. hoisted_piece_of (k + 1 + nodes_in_of cs) c₂ b₂ ts q.1)
        (hoisted_piece_of (k + 1) (c + how_many cs + how_many ts) b₁ cs q.0)

    hoisted_piece_of : (k c b : ℕ) (cs : Cases) → PlainOf cs → cases_piece table (stands k) c b (hoisted_of k cs) ≡ over k c b (subtrees_of cs)
    hoisted_piece_of k c b cnil q = none_over_of k c b
    hoisted_piece_of k c b (ccons t start a cs) q =
        cons_over k c b t start a cs q.0 (hoisted_piece k c b a q.0) (λ c₂ b₂. hoisted_piece_of (k + nodes_in a) c₂ b₂ cs q.1)
