-- A tree stands in bytes that have its nodes, its cases and its bindings each in one run, as a tree file has them.
-- Rests on the laws of standing bytes and of lengths; holds wherever the sections start.
use Rattle.std.specs.Prelude.{◌≡◌, refl, List, [], ◌∷◌, ◌++◌, ℕ, ◌+◌, ◌*◌, length}
use Rattle.std.proofs.Common.{append_assoc, arith}
use Rattle.base_words.specs.Words.{word_bytes}
use Rattle.spec_rules.specs.Limits.{node_size, case_size, binding_size}
use Rattle.spec_rules.specs.Kinds.{switch_node, list_switch_node, hoist_node}
use Rattle.spec_rules.specs.Rows.{Path, Binding}
use Rattle.spec_rules.specs.Splitting.{Test}
use Rattle.spec_rules.specs.Building.{Tree, Cases, absent, leaf, hoist, switch, listswitch, cnil, ccons}
use Rattle.spec_rules.specs.Hoisting.{how_many, nodes_in, nodes_in_of, bindings_in, bindings_in_of}
use Rattle.spec_rules.specs.TreeFile.{path_number, first_of, node_bytes, cases_in, cases_in_of, default_field, nodes_from, nodes_from_of, case_bytes, own_cases, cases_from, cases_from_of, bindings_bytes}
use Rattle.spec_file.specs.StandingLaws.{Stands, stands_left, stands_right}
use Rattle.spec_file.specs.LengthLaws.{length_nodes_from, length_nodes_from_of, length_case_bytes, length_own_cases, length_cases_from, length_cases_from_of, length_bindings_bytes}
use Rattle.spec_file.specs.TreeStands.{Starts, NodesStand, CasesStand, BindingsStand, TreeStands, TreeStandsOf}

-- ---- runs after their first
-- the own cases of a switch
pub own_rest : (t : List ℕ) (at i k : ℕ) (u : Test) (start : ℕ) (a : Tree) (cs : Cases)
    → Stands t (at + case_size * i) (own_cases k (ccons u start a cs)) → Stands t (at + case_size * (i + 1)) (own_cases (k + nodes_in a) cs)
unfolding own_cases
own_rest t at i k u start a cs h =
    stands_right (case_bytes u start k) (own_cases (k + nodes_in a) cs) (at + case_size * (i + 1)) (omega (arith, length_case_bytes u start k)) h

-- bindings
pub rest_bindings : (t : List ℕ) (table : List Path) (at b : ℕ) (x : Binding) (xs : List Binding)
    → Stands t (at + binding_size * b) (bindings_bytes table (x ∷ xs)) → Stands t (at + binding_size * (b + 1)) (bindings_bytes table xs)
unfolding bindings_bytes
rest_bindings t table at b x xs h =
    stands_right (word_bytes x.name ++ word_bytes (path_number table x.path)) (bindings_bytes table xs) (at + binding_size * (b + 1)) (omega arith) h

pub bindings_bytes_append : (table : List Path) (xs ys : List Binding) → bindings_bytes table (xs ++ ys) ≡ bindings_bytes table xs ++ bindings_bytes table ys
unfolding bindings_bytes
bindings_bytes_append table [] ys = refl
bindings_bytes_append table (x ∷ xs) ys = rw (bindings_bytes_append table xs ys)

module _ (o : Starts) (t : List ℕ) (table : List Path) where
  -- ---- a first and a second part of a run
  nodes_after : (k n : ℕ) (xs ys : List ℕ) → length xs ≡ node_size * n → NodesStand o t k (xs ++ ys) → NodesStand o t (k + n) ys
  nodes_after k n xs ys e h = stands_right xs ys (o.nodes + node_size * (k + n)) (omega arith) h

  cases_after : (c n : ℕ) (xs ys : List ℕ) → length xs ≡ case_size * n → CasesStand o t c (xs ++ ys) → CasesStand o t (c + n) ys
  cases_after c n xs ys e h = stands_right xs ys (o.cases + case_size * (c + n)) (omega arith) h

  bindings_first : (b : ℕ) (xs ys : List Binding) → BindingsStand o t table b (xs ++ ys) → BindingsStand o t table b xs
  bindings_first b xs ys h = stands_left (bindings_bytes table xs) (bindings_bytes table ys) (rw (bindings_bytes_append table xs ys) at h)

  bindings_after : (b : ℕ) (xs ys : List Binding) → BindingsStand o t table b (xs ++ ys) → BindingsStand o t table (b + length xs) ys
  bindings_after b xs ys h =
      stands_right (bindings_bytes table xs) (bindings_bytes table ys) (o.bindings + binding_size * (b + length xs)) (omega (arith, length_bindings_bytes table xs))
      (rw (bindings_bytes_append table xs ys) at h)

  -- ---- THEOREM: a tree stands where its nodes, its cases and its bindings do
  mutual
    unfolding TreeStands nodes_from cases_from bindings_in

    pub tree_stands : (a : Tree) (k c b : ℕ) → NodesStand o t k (nodes_from table k c b a) → CasesStand o t c (cases_from k a) → BindingsStand o t table b (bindings_in a)
        → TreeStands o t table k c b a
    tree_stands absent k c b n q s = tt
    tree_stands (leaf x bs) k c b n q s = (n, s)
    tree_stands (hoist x bs a) k c b n q s =
        let head = node_bytes hoist_node x (first_of (length bs) b) (length bs) (k + 1) 0 in
        let rest = nodes_from table (k + 1) c (b + length bs) a in (
          stands_left head rest n,
          bindings_first b bs (bindings_in a) s,
          tree_stands a (k + 1) c (b + length bs) (nodes_after k 1 head rest refl n) q (bindings_after b bs (bindings_in a) s),
        )
    tree_stands (switch p cs d) k c b n q s =
        let c₁ = c + how_many cs in
        let k₂ = k + 1 + nodes_in_of cs in
        let c₂ = c₁ + cases_in_of cs in
        let b₂ = b + length (bindings_in_of cs) in
        let head = node_bytes switch_node (path_number table p) (first_of (how_many cs) c) (how_many cs) 0 (default_field k₂ d) in
        let nodes_cs = nodes_from_of table (k + 1) c₁ b cs in
        let nodes_d = nodes_from table k₂ c₂ b₂ d in
        let own = own_cases (k + 1) cs in
        let cases_cs = cases_from_of (k + 1) cs in
        let cases_d = cases_from k₂ d in
        let n₁ = nodes_after k 1 head (nodes_cs ++ nodes_d) refl n in
        let q₁ = cases_after c (how_many cs) own (cases_cs ++ cases_d) (length_own_cases (k + 1) cs) q in (
          stands_left head (nodes_cs ++ nodes_d) n,
          stands_left own (cases_cs ++ cases_d) q,
          tree_stands_of cs (k + 1) c₁ b (stands_left nodes_cs nodes_d n₁) (stands_left cases_cs cases_d q₁) (bindings_first b (bindings_in_of cs) (bindings_in d) s),
          tree_stands d k₂ c₂ b₂ (nodes_after (k + 1) (nodes_in_of cs) nodes_cs nodes_d (length_nodes_from_of table (k + 1) c₁ b cs) n₁)
              (cases_after c₁ (cases_in_of cs) cases_cs cases_d (length_cases_from_of (k + 1) cs) q₁) (bindings_after b (bindings_in_of cs) (bindings_in d) s),
        )
    tree_stands (listswitch p cs ts d) k c b n q s =
        let c₁ = c + how_many cs + how_many ts in
        let k₂ = k + 1 + nodes_in_of cs in
        let c₂ = c₁ + cases_in_of cs in
        let b₂ = b + length (bindings_in_of cs) in
        let k₃ = k₂ + nodes_in_of ts in
        let c₃ = c₂ + cases_in_of ts in
        let b₃ = b₂ + length (bindings_in_of ts) in
        let head = node_bytes list_switch_node (path_number table p) (first_of (how_many cs + how_many ts) c) (how_many cs) (how_many ts) (default_field k₃ d) in
        let nodes_cs = nodes_from_of table (k + 1) c₁ b cs in
        let nodes_ts = nodes_from_of table k₂ c₂ b₂ ts in
        let nodes_d = nodes_from table k₃ c₃ b₃ d in
        let own_cs = own_cases (k + 1) cs in
        let own_ts = own_cases k₂ ts in
        let cases_cs = cases_from_of (k + 1) cs in
        let cases_ts = cases_from_of k₂ ts in
        let cases_d = cases_from k₃ d in
        let under = cases_cs ++ (cases_ts ++ cases_d) in
        let n₁ = nodes_after k 1 head (nodes_cs ++ (nodes_ts ++ nodes_d)) refl n in
        let n₂ = nodes_after (k + 1) (nodes_in_of cs) nodes_cs (nodes_ts ++ nodes_d) (length_nodes_from_of table (k + 1) c₁ b cs) n₁ in
        let q₁ =
        cases_after (c + how_many cs) (how_many ts) own_ts under (length_own_cases k₂ ts) (cases_after c (how_many cs) own_cs (own_ts ++ under) (length_own_cases (k + 1) cs) q) in
        let q₂ = cases_after c₁ (cases_in_of cs) cases_cs (cases_ts ++ cases_d) (length_cases_from_of (k + 1) cs) q₁ in
        let s₂ = bindings_after b (bindings_in_of cs) (bindings_in_of ts ++ bindings_in d) s in (
          stands_left head (nodes_cs ++ (nodes_ts ++ nodes_d)) n,
          stands_left (own_cs ++ own_ts) under (rw (← append_assoc own_cs own_ts under) at q),
          tree_stands_of cs (k + 1) c₁ b (stands_left nodes_cs (nodes_ts ++ nodes_d) n₁) (stands_left cases_cs (cases_ts ++ cases_d) q₁)
              (bindings_first b (bindings_in_of cs) (bindings_in_of ts ++ bindings_in d) s),
          tree_stands_of ts k₂ c₂ b₂ (stands_left nodes_ts nodes_d n₂) (stands_left cases_ts cases_d q₂) (bindings_first b₂ (bindings_in_of ts) (bindings_in d) s₂),
          tree_stands d k₃ c₃ b₃ (nodes_after k₂ (nodes_in_of ts) nodes_ts nodes_d (length_nodes_from_of table k₂ c₂ b₂ ts) n₂)
              (cases_after c₂ (cases_in_of ts) cases_ts cases_d (length_cases_from_of k₂ ts) q₂) (bindings_after b₂ (bindings_in_of ts) (bindings_in d) s₂),
        )

    tree_stands_of : (cs : Cases) (k c b : ℕ) → NodesStand o t k (nodes_from_of table k c b cs) → CasesStand o t c (cases_from_of k cs)
        → BindingsStand o t table b (bindings_in_of cs) → TreeStandsOf o t table k c b cs
    tree_stands_of cnil k c b n q s = tt
    tree_stands_of (ccons u start a cs) k c b n q s =
        let k₂ = k + nodes_in a in
        let c₂ = c + cases_in a in
        let b₂ = b + length (bindings_in a) in
        let nodes_a = nodes_from table k c b a in
        let nodes_cs = nodes_from_of table k₂ c₂ b₂ cs in
        let cases_a = cases_from k a in
        let cases_cs = cases_from_of k₂ cs in (
          tree_stands a k c b (stands_left nodes_a nodes_cs n) (stands_left cases_a cases_cs q) (bindings_first b (bindings_in a) (bindings_in_of cs) s),
          tree_stands_of cs k₂ c₂ b₂ (nodes_after k (nodes_in a) nodes_a nodes_cs (length_nodes_from table k c b a) n)
              (cases_after c (cases_in a) cases_a cases_cs (length_cases_from k a) q) (bindings_after b (bindings_in a) (bindings_in_of cs) s),
        )
