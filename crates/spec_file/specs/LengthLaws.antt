-- How long each section of a tree file is: the size of its records times their count in the tree or in the table.
-- Rests on the definitions of the sections; the places of records in the file are over these lengths.
use Rattle.std.specs.Prelude.{◌≡◌, refl, List, [], ◌∷◌, ◌++◌, ℕ, ◌+◌, ◌*◌, length}
use Rattle.std.proofs.Common.{arith, length-append}
use Rattle.spec_rules.specs.Limits.{node_size, case_size, binding_size, path_size, step_size}
use Rattle.spec_rules.specs.Rows.{Step, pair, tuple, constr, list, listtail, Path, Binding}
use Rattle.spec_rules.specs.Splitting.{Test, Constr, Int, Bytes, ListOf, ListWithTail}
use Rattle.spec_rules.specs.Building.{Tree, Cases, absent, leaf, hoist, switch, listswitch, cnil, ccons}
use Rattle.spec_rules.specs.Hoisting.{how_many, nodes_in, nodes_in_of, bindings_in, bindings_in_of}
use Rattle.spec_rules.specs.TreeFile.{cases_in, cases_in_of, nodes_from, nodes_from_of, case_bytes, own_cases, cases_from, cases_from_of, bindings_bytes, paths_bytes, step_bytes, path_steps, steps_bytes}
use Rattle.spec_file.specs.Writable.{steps_in}

pub length_case_bytes : (t : Test) (start child : ℕ) → length (case_bytes t start child) ≡ case_size
unfolding case_bytes
length_case_bytes (Constr a) start child = refl
length_case_bytes (Int w) start child = refl
length_case_bytes (Bytes w) start child = refl
length_case_bytes (ListOf n) start child = refl
length_case_bytes (ListWithTail n) start child = refl

pub length_step_bytes : (s : Step) → length (step_bytes s) ≡ step_size
unfolding step_bytes
length_step_bytes (pair i t) = refl
length_step_bytes (tuple i t) = refl
length_step_bytes (constr i b t) = refl
length_step_bytes (list i t) = refl
length_step_bytes (listtail i t) = refl

-- ---- nodes
mutual
  unfolding nodes_from nodes_in

  pub length_nodes_from : (table : List Path) (k c b : ℕ) (a : Tree) → length (nodes_from table k c b a) ≡ node_size * nodes_in a
  length_nodes_from table k c b absent = refl
  length_nodes_from table k c b (leaf x bs) = refl
  length_nodes_from table k c b (hoist x bs a) = omega (arith, length_nodes_from table (k + 1) c (b + length bs) a)
  length_nodes_from table k c b (switch p cs d) =
      let c₁ = c + how_many cs in
      let k₂ = k + 1 + nodes_in_of cs in
      let c₂ = c₁ + cases_in_of cs in
      let b₂ = b + length (bindings_in_of cs) in
      omega (
        arith,
        length-append (nodes_from_of table (k + 1) c₁ b cs) (nodes_from table k₂ c₂ b₂ d),
        length_nodes_from_of table (k + 1) c₁ b cs,
        length_nodes_from table k₂ c₂ b₂ d,
      )
  length_nodes_from table k c b (listswitch p cs ts d) =
      let c₁ = c + how_many cs + how_many ts in
      let k₂ = k + 1 + nodes_in_of cs in
      let c₂ = c₁ + cases_in_of cs in
      let b₂ = b + length (bindings_in_of cs) in
      let k₃ = k₂ + nodes_in_of ts in
      let c₃ = c₂ + cases_in_of ts in
      let b₃ = b₂ + length (bindings_in_of ts) in
      omega (
        arith,
        length-append (nodes_from_of table (k + 1) c₁ b cs) (nodes_from_of table k₂ c₂ b₂ ts ++ nodes_from table k₃ c₃ b₃ d),
        length-append (nodes_from_of table k₂ c₂ b₂ ts) (nodes_from table k₃ c₃ b₃ d),
        length_nodes_from_of table (k + 1) c₁ b cs,
        length_nodes_from_of table k₂ c₂ b₂ ts,
        length_nodes_from table k₃ c₃ b₃ d,
      )

  pub length_nodes_from_of : (table : List Path) (k c b : ℕ) (cs : Cases) → length (nodes_from_of table k c b cs) ≡ node_size * nodes_in_of cs
  length_nodes_from_of table k c b cnil = refl
  length_nodes_from_of table k c b (ccons t at a cs) =
      let k₂ = k + nodes_in a in
      let c₂ = c + cases_in a in
      let b₂ = b + length (bindings_in a) in
      omega (
        arith,
        length-append (nodes_from table k c b a) (nodes_from_of table k₂ c₂ b₂ cs),
        length_nodes_from table k c b a,
        length_nodes_from_of table k₂ c₂ b₂ cs,
      )

-- ---- cases
pub length_own_cases : (k : ℕ) (cs : Cases) → length (own_cases k cs) ≡ case_size * how_many cs
unfolding own_cases how_many
length_own_cases k cnil = refl
length_own_cases k (ccons t at a cs) =
    omega (
      arith,
      length-append (case_bytes t at k) (own_cases (k + nodes_in a) cs),
      length_case_bytes t at k,
      length_own_cases (k + nodes_in a) cs,
    )

mutual
  unfolding cases_from cases_in

  pub length_cases_from : (k : ℕ) (a : Tree) → length (cases_from k a) ≡ case_size * cases_in a
  length_cases_from k absent = refl
  length_cases_from k (leaf x bs) = refl
  length_cases_from k (hoist x bs a) = length_cases_from (k + 1) a
  length_cases_from k (switch p cs d) =
      let k₂ = k + 1 + nodes_in_of cs in
      omega (
        arith,
        length-append (own_cases (k + 1) cs) (cases_from_of (k + 1) cs ++ cases_from k₂ d),
        length-append (cases_from_of (k + 1) cs) (cases_from k₂ d),
        length_own_cases (k + 1) cs,
        length_cases_from_of (k + 1) cs,
        length_cases_from k₂ d,
      )
  length_cases_from k (listswitch p cs ts d) =
      let k₂ = k + 1 + nodes_in_of cs in
      let k₃ = k₂ + nodes_in_of ts in
      omega (
        arith,
        length-append (own_cases (k + 1) cs) (own_cases k₂ ts ++ (cases_from_of (k + 1) cs ++ (cases_from_of k₂ ts ++ cases_from k₃ d))),
        length-append (own_cases k₂ ts) (cases_from_of (k + 1) cs ++ (cases_from_of k₂ ts ++ cases_from k₃ d)),
        length-append (cases_from_of (k + 1) cs) (cases_from_of k₂ ts ++ cases_from k₃ d),
        length-append (cases_from_of k₂ ts) (cases_from k₃ d),
        length_own_cases (k + 1) cs,
        length_own_cases k₂ ts,
        length_cases_from_of (k + 1) cs,
        length_cases_from_of k₂ ts,
        length_cases_from k₃ d,
      )

  pub length_cases_from_of : (k : ℕ) (cs : Cases) → length (cases_from_of k cs) ≡ case_size * cases_in_of cs
  length_cases_from_of k cnil = refl
  length_cases_from_of k (ccons t at a cs) =
      omega (
        arith,
        length-append (cases_from k a) (cases_from_of (k + nodes_in a) cs),
        length_cases_from k a,
        length_cases_from_of (k + nodes_in a) cs,
      )

-- ---- bindings, paths and steps
pub length_bindings_bytes : (table : List Path) (bs : List Binding) → length (bindings_bytes table bs) ≡ binding_size * length bs
unfolding bindings_bytes
length_bindings_bytes table [] = refl
length_bindings_bytes table (b ∷ bs) = omega (arith, length_bindings_bytes table bs)

pub length_paths_bytes : (at : ℕ) (ps : List Path) → length (paths_bytes at ps) ≡ path_size * length ps
unfolding paths_bytes
length_paths_bytes at [] = refl
length_paths_bytes at (p ∷ ps) = omega (arith, length_paths_bytes (at + length p) ps)

pub length_path_steps : (p : Path) → length (path_steps p) ≡ step_size * length p
unfolding path_steps
length_path_steps [] = refl
length_path_steps (s ∷ ss) = omega (arith, length-append (step_bytes s) (path_steps ss), length_step_bytes s, length_path_steps ss)

pub length_steps_bytes : (ps : List Path) → length (steps_bytes ps) ≡ step_size * steps_in ps
unfolding steps_bytes steps_in
length_steps_bytes [] = refl
length_steps_bytes (p ∷ ps) = omega (arith, length-append (path_steps p) (steps_bytes ps), length_path_steps p, length_steps_bytes ps)
