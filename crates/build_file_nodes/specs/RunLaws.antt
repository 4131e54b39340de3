-- The file after some nodes are written is the file before with their pieces stored, each section behind what it had.
-- Rests on the arena's records of each node, on path numbers by first use, and on the laws of stores.
use Rattle.std.specs.Prelude.{◌≡◌, Bool, get_or}
use Rattle.std.proofs.Math.Path.{refl, sym, ap, ap₂, subst}
use Rattle.std.proofs.Common.{◌∙◌, arith, add-one, eqb-true}
use Rattle.std.proofs.Math.Bool.{true, false}
use mathlib.Core.List.{List, [], ◌∷◌, ◌++◌, append_assoc}
use Prim.Native.Nat.{ℕ, zero, suc, ◌+◌, ◌-◌, ◌*◌, ◌≤◌, ◌<◌}
use Rattle.std.proofs.Math.Nat.{add-zero, add_assoc}
use Rattle.std.proofs.Math.ListN.{length, length-append}
use Rattle.std.proofs.Math.Dec.{eqb}
use Rattle.std.proofs.lemmas.Bool.{eqb-false}
use Rattle.base_words.specs.Words.{word_bytes}
use Rattle.base_words.specs.Stored.{stored}
use Rattle.base_words.specs.StoredLaws.{stored_nil, stored_append, stored_swap}
use Rattle.spec_rules.specs.Limits.{patterns_most, node_size, case_size, binding_size}
use Rattle.spec_rules.specs.Kinds.{leaf_node, hoist_node, path_word, first_case_word, cases_word, tail_cases_word, default_word, clause_word, first_binding_word, bindings_word}
use Rattle.spec_rules.specs.Rows.{Path, Binding}
use Rattle.spec_rules.specs.Building.{Tree, Cases, absent, leaf, hoist, switch, listswitch, cnil, ccons}
use Rattle.spec_rules.specs.Hoisting.{how_many, nodes_in, nodes_in_of}
use Rattle.spec_rules.specs.TreeFile.{binding_paths, is_among, first_uses, path_number, first_of, node_bytes, default_field, case_bytes, own_cases, bindings_bytes}
use Rattle.spec_file.specs.StandingLaws.{Stands}
use Rattle.spec_file.specs.RecordsLaws.{case_fields, case_bytes_fields}
use Rattle.spec_file.specs.TreeStandsLaws.{bindings_bytes_append, own_rest, rest_bindings}
use Rattle.spec_file.specs.LengthLaws.{length_case_bytes, length_bindings_bytes}
use Rattle.spec_file.specs.PathsLaws.{Covers, covers_first, covers_rest, covers_append, covers_nil, covers_cons}
use Rattle.format_parts.specs.SectionsLaws.{first_some}
use Rattle.build_arena.specs.Arena.{cases_start, bindings_start, node_kind, node_word}
use Rattle.build_arena.specs.RecordsLaws.{own_first, first_binding}
use Rattle.build_arena.specs.Numbered.{joined, Each, LeafNode}
use Rattle.build_arena.specs.NumberedLaws.{how_many_joined}
use Rattle.build_scopes.specs.WriterLaws.{stands_at, hoists_at, stands_next}
use Rattle.build_file_nodes.specs.Pieces.{Piece, nothing, join, bound_piece, hoists_piece, shifted_cases, switch_piece, own_piece, above_piece, node_piece, over_piece}
use Rattle.build_file_nodes.specs.PiecesLaws.{hoists_piece_on, hoists_piece_past, hoists_count}
use Rattle.build_file_nodes.specs.Uses.{Uses, with_class, number_in, with_classes, class_numbers, with_path, Stand}
use Rattle.build_file_nodes.specs.UsesLaws.{first_uses_with, first_uses_append, number_first_use, class_numbers_append, with_classes_append, stand_with, number_used, stand_withs}
use Rattle.build_file_nodes.specs.Model.{Places, Reach, bound_bytes, bound_uses, clause_node, moved_cases, moved_default, Out, bound_out, hoist_out, hoists_out, switch_bytes, switch_out, own_out, node_out, nodes_out}
use Rattle.build_file_nodes.specs.ModelLaws.{hoist_here, hoist_elsewhere, own_leaf, own_switch, moved_none, moved_some}

-- ---- sizes
pub record Sized (x : Piece) : Type 0 where
  pub nodes_size : length x.node_bytes_holds ≡ node_size * x.nodes
  pub cases_size : length x.case_bytes_holds ≡ case_size * x.cases

sized_nothing : Sized nothing
unfolding nothing
sized_nothing = record { nodes_size = refl; cases_size = refl }

sized_join : (x y : Piece) → Sized x → Sized y → Sized (join x y)
unfolding join
sized_join x y a b =
    record {
      nodes_size = omega (arith, length-append x.node_bytes_holds y.node_bytes_holds, a.nodes_size, b.nodes_size);
      cases_size = omega (arith, length-append x.case_bytes_holds y.case_bytes_holds, a.cases_size, b.cases_size);
    }

sized_bound : (kind clause child b : ℕ) (bs : List Binding) → Sized (bound_piece kind clause child b bs)
unfolding bound_piece
sized_bound kind clause child b bs = record { nodes_size = refl; cases_size = refl }

sized_hoists : (f : ℕ → Bool) (bs : ℕ → List Binding) (k b i n : ℕ) → Sized (hoists_piece f bs k b i n)
unfolding hoists_piece
sized_hoists f bs k b i zero = sized_nothing
sized_hoists f bs k b i (suc n) = go (f i) refl (sized_hoists f bs (k + 1) (b + length (bs i)) (i + 1) n) (sized_hoists f bs k b (i + 1) n)
  where
    go : (t : Bool) → f i ≡ t → Sized (hoists_piece f bs (k + 1) (b + length (bs i)) (i + 1) n) → Sized (hoists_piece f bs k b (i + 1) n) → Sized (hoists_piece f bs k b i (suc n))
    go true e on past =
        subst Sized (sym (hoists_piece_on f bs k b i n e))
        (sized_join (bound_piece hoist_node i (k + 1) b (bs i)) (hoists_piece f bs (k + 1) (b + length (bs i)) (i + 1) n) (sized_bound hoist_node i (k + 1) b (bs i)) on)
    go false e on past = subst Sized (sym (hoists_piece_past f bs k b i n e)) past

module _ (table : List Path) (node : ℕ → ℕ) (n : ℕ) where
  length_shifted : (k : ℕ) (cs : Cases) → length (shifted_cases table node n k cs) ≡ case_size * how_many cs
  unfolding shifted_cases how_many
  length_shifted k cnil = refl
  length_shifted k (ccons t at a cs) =
      omega (arith, length-append (case_bytes t at (stands_at node n k)) (shifted_cases table node n (k + nodes_in a) cs), length_case_bytes t at (stands_at node n k), length_shifted (k + nodes_in a) cs)

  sized_switch : (k c kind : ℕ) (p : Path) (cases tails : ℕ) (cs : Cases) (d : Tree) → how_many cs ≡ cases + tails → Sized (switch_piece table node n k c kind p cases tails cs d)
  unfolding switch_piece
  sized_switch k c kind p cases tails cs d e = record { nodes_size = refl; cases_size = omega (arith, length_shifted (k + 1) cs) }

  sized_own : (k c b : ℕ) (s : Tree) → Sized (own_piece table node n k c b s)
  unfolding own_piece
  sized_own k c b absent = sized_nothing
  sized_own k c b (leaf x bs) = sized_bound leaf_node x 0 b bs
  sized_own k c b (hoist x bs a) = sized_nothing
  sized_own k c b (switch p cs d) = sized_switch k c 0 p (how_many cs) 0 cs d (sym (add-zero (how_many cs)))
  sized_own k c b (listswitch p cs ts d) = sized_switch k c 1 p (how_many cs) (how_many ts) (joined cs ts) d (how_many_joined cs ts)

  module _ (bs : ℕ → List Binding) where
    sized_node : (k c b : ℕ) (s : Tree) → Sized (node_piece table node n bs k c b s)
    unfolding node_piece above_piece
    sized_node k c b s =
        let up = above_piece table node n bs k b in
        let me = own_piece table node n k c (b + length up.bindings) s in
        sized_join up me (sized_hoists (λ x. eqb (node x) k) bs (stands_at node n k) b 0 n) (sized_own k c (b + length up.bindings) s)

    sized_over : (k c b : ℕ) (ss : List Tree) → Sized (over_piece table node n bs k c b ss)
    unfolding over_piece
    sized_over k c b [] = sized_nothing
    sized_over k c b (s ∷ ss) =
        let first = node_piece table node n bs k c b s in
        sized_join first (over_piece table node n bs (k + 1) (c + first.cases) (b + length first.bindings) ss) (sized_node k c b s)
        (sized_over (k + 1) (c + first.cases) (b + length first.bindings) ss)

-- ---- what the arena has of each node
-- the leaf with the bindings of clause c's hoist
pub record HoistLeaf (w : List ℕ) (all : List Path) (x : Places) (most : ℕ) (bs : ℕ → List Binding) (c : ℕ) : Type 0 where
  pub node : LeafNode w all most (get_or x.leaf c 0) c (bs c)
  pub covers : Covers all (binding_paths (bs c))

-- a switch of either kind, with so many cases and tail cases
pub record SwitchFacts (w : List ℕ) (all : List Path) (k kind : ℕ) (p : Path) (cases tails : ℕ) (cs : Cases) (d : Tree) : Type 0 where
  pub kind_is : node_kind w k ≡ kind
  pub kind_small : kind < leaf_node
  pub path_is : node_word w k path_word ≡ path_number all p
  pub cases_are : node_word w k cases_word ≡ cases
  pub tails_are : node_word w k tail_cases_word ≡ tails
  pub default_is : node_word w k default_word ≡ default_field (k + 1 + nodes_in_of cs) d
  pub own : Stands w (cases_start + case_size * node_word w k first_case_word) (own_cases (k + 1) cs)
  pub count : how_many cs ≡ cases + tails
  pub some_case : 0 < how_many cs
  pub among : is_among p all ≡ true

-- node k, the root of a tree without hoists
unfoldable pub Own : List ℕ → List Path → ℕ → ℕ → Tree → Type 0
unfolding joined how_many binding_paths
Own w all most k absent = ⊥
Own w all most k (leaf x bs) = LeafNode w all most k x bs × Covers all (binding_paths bs)
Own w all most k (hoist x bs a) = ⊥
Own w all most k (switch p cs d) = SwitchFacts w all k 0 p (how_many cs) 0 cs d
Own w all most k (listswitch p cs ts d) = SwitchFacts w all k 1 p (how_many cs) (how_many ts) (joined cs ts) d

module _ (table : List Path) (node : ℕ → ℕ) (n : ℕ) (bs : ℕ → List Binding) (k b : ℕ) where
  above_no_cases : (above_piece table node n bs k b).cases ≡ 0
  unfolding above_piece
  above_no_cases = (hoists_count (λ x. eqb (node x) k) bs (stands_at node n k) b 0 n).no_cases

  above_sized : Sized (above_piece table node n bs k b)
  unfolding above_piece
  above_sized = sized_hoists (λ x. eqb (node x) k) bs (stands_at node n k) b 0 n

both_covered : (all : List Path) (i child b : ℕ) (bs : List Binding) (y : Piece) → Covers all (binding_paths bs) → Covers all y.paths
    → Covers all (join (bound_piece hoist_node i child b bs) y).paths
unfolding join bound_piece
both_covered all i child b bs y v w = covers_append all (binding_paths bs) y.paths v w

hoists_cover : (all : List Path) (f : ℕ → Bool) (bs : ℕ → List Binding) (k b i n m : ℕ) → i + n ≤ m → ((d : ℕ) → d < m → f d ≡ true → Covers all (binding_paths (bs d)))
    → Covers all (hoists_piece f bs k b i n).paths
unfolding hoists_piece nothing
hoists_cover all f bs k b i zero m l g = covers_nil all
hoists_cover all f bs k b i (suc n) m l g =
    go (f i) refl (hoists_cover all f bs (k + 1) (b + length (bs i)) (i + 1) n m (omega arith) g) (hoists_cover all f bs k b (i + 1) n m (omega arith) g)
  where
    go : (t : Bool) → f i ≡ t → Covers all (hoists_piece f bs (k + 1) (b + length (bs i)) (i + 1) n).paths → Covers all (hoists_piece f bs k b (i + 1) n).paths
        → Covers all (hoists_piece f bs k b i (suc n)).paths
    go true e on past =
        subst (λ z. Covers all z.paths) (sym (hoists_piece_on f bs k b i n e)) (both_covered all i (k + 1) b (bs i) (hoists_piece f bs (k + 1) (b + length (bs i)) (i + 1) n) (g i (omega arith) e) on)
    go false e on past = subst (λ z. Covers all z.paths) (sym (hoists_piece_past f bs k b i n e)) past

-- ---- a default where it comes to stand
moved_there : (node : ℕ → ℕ) (n j m : ℕ) → m ≡ suc j → moved_default (stands_at node n) m ≡ suc (stands_at node n j)
moved_there node n j m e =
    let q : m - 1 ≡ j = omega arith in
    moved_some (stands_at node n) m (λ z. omega arith) ∙ ap (λ z. stands_at node n z + 1) q ∙ add-one (stands_at node n j)

moved_default_is : (node : ℕ → ℕ) (n j : ℕ) (d : Tree) (m : ℕ) → m ≡ default_field j d → moved_default (stands_at node n) m ≡ default_field (stands_at node n j) d
unfolding default_field
moved_default_is node n j absent m e = moved_none (stands_at node n) m e
moved_default_is node n j (leaf c bs) m e = moved_there node n j m e
moved_default_is node n j (hoist c bs a) m e = moved_there node n j m e
moved_default_is node n j (switch p cs d) m e = moved_there node n j m e
moved_default_is node n j (listswitch p cs ts d) m e = moved_there node n j m e

-- ---- a piece stored
-- three sections, each stored in two parts
stored_twice : (t : List ℕ) (i j k i₂ j₂ k₂ : ℕ) (x y z x₂ y₂ z₂ : List ℕ) → i + length x ≡ i₂ → j + length y ≡ j₂ → k + length z ≡ k₂ → i₂ + length x₂ ≤ j
    → j₂ + length y₂ ≤ k
    → stored (stored (stored (stored (stored (stored t i x) j y) k z) i₂ x₂) j₂ y₂) k₂ z₂ ≡ stored (stored (stored t i (x ++ x₂)) j (y ++ y₂)) k (z ++ z₂)
stored_twice t i j k i₂ j₂ k₂ x y z x₂ y₂ z₂ a b c p q =
    let t₁ = stored t i x in
    let t₂ = stored t i (x ++ x₂) in
    ap (λ l. stored (stored l j₂ y₂) k₂ z₂)
    (stored_swap (stored t₁ j y) i₂ k x₂ z (omega arith)
    ∙ ap (λ l. stored l k z) (stored_swap t₁ i₂ j x₂ y p ∙ ap (λ l. stored l j y) (stored_append t i i₂ x x₂ a)))
    ∙ ap (λ l. stored l k₂ z₂) (stored_swap (stored t₂ j y) j₂ k y₂ z q ∙ ap (λ l. stored l k z) (stored_append t₂ j j₂ y y₂ b))
    ∙ stored_append (stored t₂ j (y ++ y₂)) k k₂ z z₂ c

module _ (all table : List Path) (cases_at bindings_at : ℕ) where
  -- the file with the piece x behind what it has
  unfoldable pub after : Out → Piece → Out
  unfolding bindings_bytes with_classes class_numbers
  after o x =
      let f = o.tops in
      record {
        tree =
            stored (stored (stored o.tree (node_size * f.nodes) x.node_bytes_holds) (cases_at + case_size * f.cases) x.case_bytes_holds) (bindings_at + binding_size * f.bindings)
            (bindings_bytes table x.bindings);
        tops = record {
          nodes = f.nodes + x.nodes;
          cases = f.cases + x.cases;
          bindings = f.bindings + length x.bindings;
          uses = with_classes f.uses (class_numbers all x.paths);
        };
      }

  -- the sections do not run into each other
  pub record Fitting (f : Reach) (x : Piece) : Type 0 where
    pub nodes_room : node_size * (f.nodes + x.nodes) ≤ cases_at
    pub cases_room : cases_at + case_size * (f.cases + x.cases) ≤ bindings_at

  fitting_first : (f : Reach) (x y : Piece) → Fitting f (join x y) → Fitting f x
  unfolding join
  fitting_first f x y h = record { nodes_room = omega (arith, h.nodes_room); cases_room = omega (arith, h.cases_room) }

  fitting_rest : (o : Out) (x y : Piece) → Fitting o.tops (join x y) → Fitting (after o x).tops y
  unfolding join after
  fitting_rest o x y h = record { nodes_room = omega (arith, h.nodes_room); cases_room = omega (arith, h.cases_room) }

  after_nothing : (o : Out) → after o nothing ≡ o
  unfolding after nothing bindings_bytes with_classes class_numbers
  after_nothing o =
      let f = o.tops in
      let i = node_size * f.nodes in
      let j = cases_at + case_size * f.cases in
      let k = bindings_at + binding_size * f.bindings in
      let e : stored (stored (stored o.tree i []) j []) k [] ≡ o.tree =
      stored_nil (stored (stored o.tree i []) j []) k ∙ stored_nil (stored o.tree i []) j ∙ stored_nil o.tree i in
      λ l.
      record {
        tree = e l;
        tops = record { nodes = add-zero f.nodes l; cases = add-zero f.cases l; bindings = add-zero f.bindings l; uses = f.uses };
      }

  -- THEOREM: two pieces one after the other are their join
  after_join : (o : Out) (x y : Piece) → Sized x → Sized y → Fitting o.tops (join x y) → after (after o x) y ≡ after o (join x y)
  unfolding after join
  after_join o x y a b h =
      let f = o.tops in
      let z = bindings_bytes table x.bindings in
      let z₂ = bindings_bytes table y.bindings in
      let i = node_size * f.nodes in
      let j = cases_at + case_size * f.cases in
      let k = bindings_at + binding_size * f.bindings in
      let e = stored_twice o.tree i j k (node_size * (f.nodes + x.nodes)) (cases_at + case_size * (f.cases + x.cases)) (bindings_at + binding_size * (f.bindings + length x.bindings))
      x.node_bytes_holds x.case_bytes_holds z y.node_bytes_holds y.case_bytes_holds z₂ (omega (arith, a.nodes_size)) (omega (arith, a.cases_size)) (omega (arith, length_bindings_bytes table x.bindings))
      (omega (arith, b.nodes_size, h.nodes_room)) (omega (arith, b.cases_size, h.cases_room))
      ∙ ap (stored (stored (stored o.tree i (x.node_bytes_holds ++ y.node_bytes_holds)) j (x.case_bytes_holds ++ y.case_bytes_holds)) k) (sym (bindings_bytes_append table x.bindings y.bindings)) in
      let u = sym (with_classes_append f.uses (class_numbers all x.paths) (class_numbers all y.paths)) ∙ ap (with_classes f.uses) (sym (class_numbers_append all x.paths y.paths)) in
      let n : f.bindings + length x.bindings + length y.bindings ≡ f.bindings + length (x.bindings ++ y.bindings) = omega (arith, length-append x.bindings y.bindings) in
      λ l.
      record {
        tree = e l;
        tops = record { nodes = add_assoc f.nodes x.nodes y.nodes l; cases = add_assoc f.cases x.cases y.cases l; bindings = n l; uses = u l };
      }

  -- ---- bindings read in the arena
  module _ (w : List ℕ) (short : length all ≤ patterns_most) where
    bound_bytes_lem : (bs : List Binding) (i : ℕ) (u : Uses) (there rest : List Path) → Stands w (bindings_start + binding_size * i) (bindings_bytes all bs) → Stand all u there
        → Covers all (binding_paths bs) → table ≡ first_uses there (binding_paths bs ++ rest) → bound_bytes w i (length bs) u ≡ bindings_bytes table bs
    unfolding bound_bytes bindings_bytes binding_paths
    bound_bytes_lem [] i u there rest s h v e = refl
    bound_bytes_lem (x ∷ bs) i u there rest s h v e =
        let p = x.path in
        let class = path_number all p in
        let r = first_binding w all i x bs s in
        let among = covers_first all p (binding_paths bs) v in
        let number : number_in (with_class u class) class ≡ path_number table p =
        number_used all short u there h p among ∙ sym (number_first_use there (binding_paths bs ++ rest) p) ∙ ap (λ z. path_number z p) (sym e) in
        let ih = bound_bytes_lem bs (i + 1) (with_class u class) (with_path there p) rest (rest_bindings w all bindings_start i x bs s) (stand_with all short u there h p among) (covers_rest all p (binding_paths bs) v)
        (e ∙ first_uses_with there p (binding_paths bs ++ rest)) in
        rw (r.name_is, r.path_is) (ap₂ (λ y z. (word_bytes x.name ++ word_bytes y) ++ z) number ih)

    bound_uses_lem : (bs : List Binding) (i : ℕ) (u : Uses) → Stands w (bindings_start + binding_size * i) (bindings_bytes all bs)
        → bound_uses w i (length bs) u ≡ with_classes u (class_numbers all (binding_paths bs))
    unfolding bound_uses binding_paths with_classes class_numbers
    bound_uses_lem [] i u s = refl
    bound_uses_lem (x ∷ bs) i u s =
        ap (λ z. bound_uses w (i + 1) (length bs) (with_class u z)) (first_binding w all i x bs s).path_is
        ∙ bound_uses_lem bs (i + 1) (with_class u (path_number all x.path)) (rest_bindings w all bindings_start i x bs s)

    -- THEOREM: a leaf, or a hoist with the bindings of the leaf
    bound_after : (j kind child most x : ℕ) (bs : List Binding) (o : Out) (there rest : List Path) → LeafNode w all most j x bs → Stand all o.tops.uses there
        → Covers all (binding_paths bs) → table ≡ first_uses there (binding_paths bs ++ rest)
        → bound_out w bindings_at j kind child o ≡ after o (bound_piece kind x child o.tops.bindings bs)
    unfolding bound_out after bound_piece
    bound_after j kind child most x bs o there rest h s v e =
        let f = o.tops in
        let k = bindings_at + binding_size * f.bindings in
        let bytes : bound_bytes w (node_word w j first_binding_word) (node_word w j bindings_word) f.uses ≡ bindings_bytes table bs =
        ap (λ z. bound_bytes w (node_word w j first_binding_word) z f.uses) h.count_is ∙ bound_bytes_lem bs (node_word w j first_binding_word) f.uses there rest h.bound s v e in
        let uses : bound_uses w (node_word w j first_binding_word) (node_word w j bindings_word) f.uses ≡ with_classes f.uses (class_numbers all (binding_paths bs)) =
        ap (λ z. bound_uses w (node_word w j first_binding_word) z f.uses) h.count_is ∙ bound_uses_lem bs (node_word w j first_binding_word) f.uses h.bound in
        let first = stored o.tree (node_size * f.nodes) (node_bytes kind x (first_of (length bs) f.bindings) (length bs) child 0) in
        let tree : stored (stored o.tree (node_size * f.nodes) (node_bytes kind (node_word w j clause_word) (first_of (node_word w j bindings_word) f.bindings) (node_word w j bindings_word) child 0)) k
        (bound_bytes w (node_word w j first_binding_word) (node_word w j bindings_word) f.uses)
        ≡ stored (stored first (cases_at + case_size * f.cases) []) k (bindings_bytes table bs) =
        (λ l.
        stored (stored o.tree (node_size * f.nodes) (node_bytes kind (h.clause_is l) (first_of (h.count_is l) f.bindings) (h.count_is l) child 0)) k (bytes l))
        ∙ ap (λ z. stored z k (bindings_bytes table bs)) (sym (stored_nil first (cases_at + case_size * f.cases))) in
        λ l.
        record {
          tree = tree l;
          tops = record { nodes = f.nodes + 1; cases = sym (add-zero f.cases) l; bindings = f.bindings + h.count_is l; uses = uses l };
        }

    -- after a piece the uses stand for the table with its paths, and what is left of the table's paths begins behind them
    after_stand : (o : Out) (x : Piece) (there : List Path) → Stand all o.tops.uses there → Covers all x.paths → Stand all (after o x).tops.uses (first_uses there x.paths)
    unfolding after
    after_stand o x there s v = stand_withs all short x.paths o.tops.uses there s v

    left_paths : (x y there rest : List Path) → table ≡ first_uses there ((x ++ y) ++ rest) → table ≡ first_uses (first_uses there x) (y ++ rest)
    left_paths x y there rest e = e ∙ ap (first_uses there) (append_assoc x y rest) ∙ first_uses_append there x (y ++ rest)

    first_paths : (x y there rest : List Path) → table ≡ first_uses there ((x ++ y) ++ rest) → table ≡ first_uses there (x ++ (y ++ rest))
    first_paths x y there rest e = e ∙ ap (first_uses there) (append_assoc x y rest)

    -- ---- the hoists above a node
    module _ (x : Places) (k most : ℕ) (bs : ℕ → List Binding) where
      abbrev here : ℕ → Bool
      here c = eqb (clause_node x c) k

      abbrev hoists_here : ℕ → ℕ → Out → Piece
      hoists_here c n o = hoists_piece here bs o.tops.nodes o.tops.bindings c n

      -- the n clauses from c on, from the state o
      abbrev From : ℕ → ℕ → List Path → Out → List Path → Type 0
      From c n rest o there =
          Stand all o.tops.uses there → table ≡ first_uses there ((hoists_here c n o).paths ++ rest) → Fitting o.tops (hoists_here c n o)
          → hoists_out w bindings_at x k c n o ≡ after o (hoists_here c n o)

      hoist_on : (c n : ℕ) (o : Out) (there rest : List Path) → clause_node x c ≡ k
          → hoists_here c (suc n) o
          ≡ join (bound_piece hoist_node c (o.tops.nodes + 1) o.tops.bindings (bs c)) (hoists_piece here bs (o.tops.nodes + 1) (o.tops.bindings + length (bs c)) (c + 1) n)
          → HoistLeaf w all x most bs c → Stand all o.tops.uses there → table ≡ first_uses there ((hoists_here c (suc n) o).paths ++ rest) → Fitting o.tops (hoists_here c (suc n) o)
          → ((o₂ : Out) (there₂ : List Path) → From (c + 1) n rest o₂ there₂)
          → hoists_out w bindings_at x k (c + 1) n (hoist_out w bindings_at x k c o) ≡ after o (hoists_here c (suc n) o)
      unfolding join bound_piece after
      hoist_on c n o there rest q on g s e h ih =
          let first = bound_piece hoist_node c (o.tops.nodes + 1) o.tops.bindings (bs c) in
          let next = hoists_piece here bs (o.tops.nodes + 1) (o.tops.bindings + length (bs c)) (c + 1) n in
          let e₁ : table ≡ first_uses there ((binding_paths (bs c) ++ next.paths) ++ rest) = e ∙ ap (λ z. first_uses there (z.paths ++ rest)) on in
          let h₁ : Fitting o.tops (join first next) = subst (Fitting o.tops) on h in
          let step : hoist_out w bindings_at x k c o ≡ after o first =
          hoist_here w bindings_at x k c o q
          ∙ bound_after (get_or x.leaf c 0) hoist_node (o.tops.nodes + 1) most c (bs c) o there (next.paths ++ rest) g.node s g.covers
          (first_paths (binding_paths (bs c)) next.paths there rest e₁) in
          ap (hoists_out w bindings_at x k (c + 1) n) step
          ∙ ih (after o first) (first_uses there (binding_paths (bs c))) (after_stand o first there s g.covers) (left_paths (binding_paths (bs c)) next.paths there rest e₁)
          (fitting_rest o first next h₁)
          ∙ after_join o first next (sized_bound hoist_node c (o.tops.nodes + 1) o.tops.bindings (bs c)) (sized_hoists here bs (o.tops.nodes + 1) (o.tops.bindings + length (bs c)) (c + 1) n) h₁
          ∙ ap (after o) (sym on)

      hoists_after : (c n m : ℕ) (o : Out) (there rest : List Path) → c + n ≤ m → ((d : ℕ) → d < m → clause_node x d ≡ k → HoistLeaf w all x most bs d) → From c n rest o there
      unfolding hoists_out hoists_piece
      hoists_after c zero m o there rest l g s e h = sym (after_nothing o)
      hoists_after c (suc n) m o there rest l g s e h =
          go (eqb (clause_node x c) k) refl (λ o₂ there₂. hoists_after (c + 1) n m o₂ there₂ rest (omega arith) g)
        where
          go : (t : Bool) → eqb (clause_node x c) k ≡ t → ((o₂ : Out) (there₂ : List Path) → From (c + 1) n rest o₂ there₂)
              → hoists_out w bindings_at x k (c + 1) n (hoist_out w bindings_at x k c o) ≡ after o (hoists_here c (suc n) o)
          go true q ih =
              hoist_on c n o there rest (eqb-true (clause_node x c) k q) (hoists_piece_on here bs o.tops.nodes o.tops.bindings c n q)
              (g c (omega arith) (eqb-true (clause_node x c) k q)) s e h ih
          go false q ih =
              let past = hoists_piece_past here bs o.tops.nodes o.tops.bindings c n q in
              ap (hoists_out w bindings_at x k (c + 1) n) (hoist_elsewhere w bindings_at x k c o (eqb-false (clause_node x c) k q))
              ∙ ih o there s (e ∙ ap (λ z. first_uses there (z.paths ++ rest)) past) (subst (Fitting o.tops) past h)
              ∙ ap (after o) (sym past)

    -- ---- a switch
    moved_cases_lem : (node : ℕ → ℕ) (n : ℕ) (cs : Cases) (i k : ℕ) → Stands w (cases_start + case_size * i) (own_cases k cs)
        → moved_cases w (stands_at node n) i (how_many cs) ≡ shifted_cases table node n k cs
    unfolding moved_cases shifted_cases how_many
    moved_cases_lem node n cnil i k s = refl
    moved_cases_lem node n (ccons t at a cs) i k s =
        let r = own_first w i k t at a cs s in
        ap₂ (λ y z. y ++ z)
        ((λ l. case_fields (r.kind_is l) (r.number_is l) (r.length_is l) (stands_at node n (r.child_is l))) ∙ sym (case_bytes_fields t at (stands_at node n k)))
        (moved_cases_lem node n cs (i + 1) (k + nodes_in a) (own_rest w cases_start i k t at a cs s))

    module _ (x : Places) (n k : ℕ) where
      abbrev node : ℕ → ℕ
      node = clause_node x

      switch_after : (kind : ℕ) (p : Path) (cases tails : ℕ) (cs : Cases) (d : Tree) (o : Out) (there rest : List Path) → SwitchFacts w all k kind p cases tails cs d
          → Stand all o.tops.uses there → table ≡ first_uses there (p ∷ rest)
          → switch_out w cases_at (stands_at (clause_node x) n) k o ≡ after o (switch_piece table node n k o.tops.cases kind p cases tails cs d)
      unfolding switch_out switch_bytes after switch_piece with_classes class_numbers bindings_bytes
      switch_after kind p cases tails cs d o there rest h s e =
          let f = o.tops in
          let j = cases_at + case_size * f.cases in
          let number : number_in (with_class f.uses (node_word w k path_word)) (node_word w k path_word) ≡ path_number table p =
          ap (λ z. number_in (with_class f.uses z) z) h.path_is
          ∙ number_used all short f.uses there s p h.among
          ∙ sym (number_first_use there rest p)
          ∙ ap (λ z. path_number z p) (sym e) in
          let first : f.cases ≡ first_of (cases + tails) f.cases = first_some (cases + tails) f.cases (λ z. omega (arith, h.some_case, h.count)) in
          let default : moved_default (stands_at node n) (node_word w k default_word) ≡ default_field (stands_at node n (k + 1 + nodes_in_of cs)) d = moved_default_is node n (k + 1 + nodes_in_of cs) d (node_word w k default_word) h.default_is in
          let many : node_word w k cases_word + node_word w k tail_cases_word ≡ cases + tails = ap₂ (λ y z. y + z) h.cases_are h.tails_are in
          let own : moved_cases w (stands_at node n) (node_word w k first_case_word) (node_word w k cases_word + node_word w k tail_cases_word) ≡ shifted_cases table node n (k + 1) cs =
          ap (moved_cases w (stands_at node n) (node_word w k first_case_word)) (many ∙ sym h.count) ∙ moved_cases_lem node n cs (node_word w k first_case_word) (k + 1) h.own in
          let bytes : node_bytes (node_kind w k) (number_in (with_class f.uses (node_word w k path_word)) (node_word w k path_word)) f.cases (node_word w k cases_word) (node_word w k tail_cases_word) (moved_default (stands_at node n) (node_word w k default_word))
          ≡ node_bytes kind (path_number table p) (first_of (cases + tails) f.cases) cases tails (default_field (stands_at node n (k + 1 + nodes_in_of cs)) d) =
          λ l. node_bytes (h.kind_is l) (number l) (first l) (h.cases_are l) (h.tails_are l) (default l) in
          let done = stored (stored o.tree (node_size * f.nodes) (node_bytes kind (path_number table p) (first_of (cases + tails) f.cases) cases tails (default_field (stands_at node n (k + 1 + nodes_in_of cs)) d))) j
          (shifted_cases table node n (k + 1) cs) in
          let tree = (λ l. stored (stored o.tree (node_size * f.nodes) (bytes l)) j (own l)) ∙ sym (stored_nil done (bindings_at + binding_size * f.bindings)) in
          λ l.
          record {
            tree = tree l;
            tops = record { nodes = f.nodes + 1; cases = f.cases + many l; bindings = sym (add-zero f.bindings) l; uses = with_class f.uses (h.path_is l) };
          }

      -- ---- a node
      abbrev mine : ℕ → ℕ → Tree → Piece
      mine c b s = own_piece table node n k c b s

      own_after : (most : ℕ) (s : Tree) (o : Out) (there rest : List Path) → Own w all most k s → Stand all o.tops.uses there
          → table ≡ first_uses there ((mine o.tops.cases o.tops.bindings s).paths ++ rest)
          → own_out w cases_at bindings_at (stands_at (clause_node x) n) k o ≡ after o (mine o.tops.cases o.tops.bindings s)
      unfolding Own own_piece bound_piece switch_piece
      own_after most absent o there rest h s e = absurd h
      own_after most (leaf c bs) o there rest h s e =
          own_leaf w cases_at bindings_at (stands_at (clause_node x) n) k o h.0.kind_is ∙ bound_after k leaf_node 0 most c bs o there rest h.0 s h.1 e
      own_after most (hoist c bs a) o there rest h s e = absurd h
      own_after most (switch p cs d) o there rest h s e =
          own_switch w cases_at bindings_at (stands_at (clause_node x) n) k o (λ z. omega (arith, h.kind_is)) ∙ switch_after 0 p (how_many cs) 0 cs d o there rest h s e
      own_after most (listswitch p cs ts d) o there rest h s e =
          own_switch w cases_at bindings_at (stands_at (clause_node x) n) k o (λ z. omega (arith, h.kind_is)) ∙ switch_after 1 p (how_many cs) (how_many ts) (joined cs ts) d o there rest h s e

      own_covers : (most c b : ℕ) (s : Tree) → Own w all most k s → Covers all (mine c b s).paths
      unfolding Own own_piece bound_piece switch_piece
      own_covers most c b absent h = absurd h
      own_covers most c b (leaf x bs) h = h.1
      own_covers most c b (hoist x bs a) h = absurd h
      own_covers most c b (switch p cs d) h = covers_cons all p [] h.among (covers_nil all)
      own_covers most c b (listswitch p cs ts d) h = covers_cons all p [] h.among (covers_nil all)

      own_one : (most c b : ℕ) (s : Tree) → Own w all most k s → (mine c b s).nodes ≡ 1
      unfolding Own own_piece bound_piece switch_piece
      own_one most c b absent h = absurd h
      own_one most c b (leaf x bs) h = refl
      own_one most c b (hoist x bs a) h = absurd h
      own_one most c b (switch p cs d) h = refl
      own_one most c b (listswitch p cs ts d) h = refl

      module _ (most : ℕ) (bs : ℕ → List Binding) (g : (d : ℕ) → d < n → clause_node x d ≡ k → HoistLeaf w all x most bs d) where
        abbrev above : ℕ → Piece
        above b = above_piece table node n bs k b

        above_covers : (b : ℕ) → Covers all (above b).paths
        unfolding above_piece
        above_covers b = hoists_cover all (here x k most bs) bs (stands_at node n k) b 0 n n (omega arith) (λ d l e. (g d l (eqb-true (clause_node x d) k e)).covers)

        above_after : (o : Out) (there rest : List Path) → o.tops.nodes ≡ stands_at node n k → Stand all o.tops.uses there
            → table ≡ first_uses there ((above o.tops.bindings).paths ++ rest) → Fitting o.tops (above o.tops.bindings)
            → hoists_out w bindings_at x k 0 n o ≡ after o (above o.tops.bindings)
        unfolding above_piece
        above_after o there rest q =
            subst
            (λ z.
            Stand all o.tops.uses there → table ≡ first_uses there ((hoists_piece (here x k most bs) bs z o.tops.bindings 0 n).paths ++ rest)
            → Fitting o.tops (hoists_piece (here x k most bs) bs z o.tops.bindings 0 n)
            → hoists_out w bindings_at x k 0 n o ≡ after o (hoists_piece (here x k most bs) bs z o.tops.bindings 0 n))
            q
            (hoists_after x k most bs 0 n n o there rest (omega arith) g)

        node_after : (s : Tree) (o : Out) (there rest : List Path) → o.tops.nodes ≡ stands_at node n k → Own w all most k s → Stand all o.tops.uses there
            → table ≡ first_uses there ((node_piece table node n bs k o.tops.cases o.tops.bindings s).paths ++ rest)
            → Fitting o.tops (node_piece table node n bs k o.tops.cases o.tops.bindings s)
            → node_out w cases_at bindings_at x n k o ≡ after o (node_piece table node n bs k o.tops.cases o.tops.bindings s)
        unfolding node_out node_piece join after
        node_after s o there rest q h st e fit =
            let f = o.tops in
            let up = above f.bindings in
            let b = f.bindings + length up.bindings in
            let me = mine f.cases b s in
            let same : f.cases + up.cases ≡ f.cases = ap (λ z. f.cases + z) (no_cases_above f.bindings) ∙ add-zero f.cases in
            let mine_same : mine (f.cases + up.cases) b s ≡ me = ap (λ z. mine z b s) same in
            let lifted : hoists_out w bindings_at x k 0 n o ≡ after o up =
            above_after o there (me.paths ++ rest) q st (first_paths up.paths me.paths there rest e) (fitting_first f up me fit) in
            ap (own_out w cases_at bindings_at (stands_at (clause_node x) n) k) lifted
            ∙ own_after most s (after o up) (first_uses there up.paths) rest h (after_stand o up there st (above_covers f.bindings))
            (left_paths up.paths me.paths there rest e ∙ ap (λ z. first_uses (first_uses there up.paths) (z.paths ++ rest)) (sym mine_same))
            ∙ ap (after (after o up)) mine_same
            ∙ after_join o up me (sized_above f.bindings) (sized_own table node n k f.cases b s) fit
          where
            no_cases_above : (b : ℕ) → (above b).cases ≡ 0
            no_cases_above b = above_no_cases table node n bs k b

            sized_above : (b : ℕ) → Sized (above b)
            sized_above b = above_sized table node n bs k b

        node_covers : (c b : ℕ) (s : Tree) → Own w all most k s → Covers all (node_piece table node n bs k c b s).paths
        unfolding node_piece join
        node_covers c b s h =
            covers_append all (above b).paths (mine c (b + length (above b).bindings) s).paths (above_covers b) (own_covers most c (b + length (above b).bindings) s h)

        node_stands : (c b : ℕ) (s : Tree) → Own w all most k s → stands_at node n k + (node_piece table node n bs k c b s).nodes ≡ stands_at node n (k + 1)
        unfolding node_piece join above_piece hoists_at
        node_stands c b s h =
            omega (arith, stands_next node n k, (hoists_count (here x k most bs) bs (stands_at node n k) b 0 n).nodes_are, own_one most c (b + length (above b).bindings) s h)

    -- ---- all nodes
    module _ (x : Places) (n most total : ℕ) (bs : ℕ → List Binding) (g : (d : ℕ) → d < n → clause_node x d < total → HoistLeaf w all x most bs d) where
      abbrev over : ℕ → ℕ → ℕ → List Tree → Piece
      over k c b ss = over_piece table (clause_node x) n bs k c b ss

      -- THEOREM: writing the nodes one after another stores their pieces
      pub nodes_after : (ss : List Tree) (k : ℕ) (o : Out) (there rest : List Path) → k + length ss ≤ total → Each (Own w all most) k ss → o.tops.nodes ≡ stands_at (clause_node x) n k
          → Stand all o.tops.uses there → table ≡ first_uses there ((over k o.tops.cases o.tops.bindings ss).paths ++ rest)
          → Fitting o.tops (over k o.tops.cases o.tops.bindings ss)
          → nodes_out w cases_at bindings_at x n k (length ss) o ≡ after o (over k o.tops.cases o.tops.bindings ss)
      unfolding nodes_out over_piece join after
      nodes_after [] k o there rest l h q st e fit = sym (after_nothing o)
      nodes_after (s ∷ ss) k o there rest l h q st e fit =
          let f = o.tops in
          let leaves : (d : ℕ) → d < n → clause_node x d ≡ k → HoistLeaf w all x most bs d = λ d m z. g d m (omega arith) in
          let first = node_piece table (clause_node x) n bs k f.cases f.bindings s in
          let next = over (k + 1) (f.cases + first.cases) (f.bindings + length first.bindings) ss in
          let covered = node_covers x n k most bs leaves f.cases f.bindings s h.0 in
          let here_first = node_after x n k most bs leaves s o there (next.paths ++ rest) q h.0 st (first_paths first.paths next.paths there rest e) (fitting_first f first next fit) in
          ap (nodes_out w cases_at bindings_at x n (k + 1) (length ss)) here_first
          ∙ nodes_after ss (k + 1) (after o first) (first_uses there first.paths) rest (omega arith) h.1
          (ap (λ z. z + first.nodes) q ∙ node_stands x n k most bs leaves f.cases f.bindings s h.0) (after_stand o first there st covered)
          (left_paths first.paths next.paths there rest e) (fitting_rest o first next fit)
          ∙ after_join o first next (sized_node table (clause_node x) n bs k f.cases f.bindings s)
          (sized_over table (clause_node x) n bs (k + 1) (f.cases + first.cases) (f.bindings + length first.bindings) ss) fit

      pub over_covers : (ss : List Tree) (k c b : ℕ) → k + length ss ≤ total → Each (Own w all most) k ss → Covers all (over k c b ss).paths
      unfolding over_piece join nothing
      over_covers [] k c b l h = covers_nil all
      over_covers (s ∷ ss) k c b l h =
          let leaves : (d : ℕ) → d < n → clause_node x d ≡ k → HoistLeaf w all x most bs d = λ d m z. g d m (omega arith) in
          let first = node_piece table (clause_node x) n bs k c b s in
          covers_append all first.paths (over (k + 1) (c + first.cases) (b + length first.bindings) ss).paths (node_covers x n k most bs leaves c b s h.0)
          (over_covers ss (k + 1) (c + first.cases) (b + length first.bindings) (omega arith) h.1)
