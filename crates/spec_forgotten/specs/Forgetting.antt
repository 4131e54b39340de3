-- Request 7, "Which panels did the sheet forget": what the call reports, said of values and of the walk on them. Nothing here searches.
use Rattle.std.specs.Prelude.{ℕ, ◌≤◌, ◌<◌, ◌≡◌, ◌⊎◌, true, false, List, [], ◌∷◌, length}
use Rattle.base_words.specs.Words.{zeros}
use Rattle.spec_rules.specs.Limits.{tree_room, work_room}
use Rattle.spec_rules.specs.SheetFile.{subject, types}
use Rattle.spec_rules.specs.SheetRefusals.{Verdict, accepted, refused, verdict}
use Rattle.spec_rules.specs.Calls.{Answer, answers, refuses, written, sheet_tree, sheet_tree_file}
use Rattle.spec_forgotten.specs.Values.{Value, of_type, Passed, without, walk_on}

-- the least room of the report buffer, in u16: two for each test of a way, of which there are at most 191
abbrev pub report_room : ℕ
report_room = 384

-- ---- "some panel of the subject type leaves [it] without a leaf": the value v is of the subject's type, and its walk ends at switch n
-- without a leaf, after the tests ts
pub record Forgets (s : List ℕ) (v : Value) (n : ℕ) (ts : List Passed) : Type 0 where
  pub typed : of_type s (subject s) v ≡ true
  pub ends : walk_on 0 (sheet_tree s) v ≡ without n ts

abbrev pub Forgotten : List ℕ → ℕ → List Passed → Type 0
Forgotten s n ts = (v : Value) × Forgets s v n ts

-- "the lowest-numbered switch .. with the tests taken on the way"
pub record LowestForgotten (s : List ℕ) (n : ℕ) (ts : List Passed) : Type 0 where
  pub forgotten : Forgotten s n ts
  pub lowest : (m : ℕ) → m < n → (us : List Passed) → Forgotten s m us → ⊥

-- "If no such panel exists, say Covered, and exactly then"
abbrev pub Covered : List ℕ → Type 0
Covered s = (n : ℕ) (ts : List Passed) → Forgotten s n ts → ⊥

-- ---- 15 Hollow type: "the lowest type with no finite value"
abbrev pub Hollow : List ℕ → ℕ → Type 0
Hollow s t = (v : Value) → of_type s t v ≡ false

abbrev pub Filled : List ℕ → ℕ → Type 0
Filled s t = (v : Value) × (of_type s t v ≡ true)

pub record LowestHollow (s : List ℕ) (t : ℕ) : Type 0 where
  pub there : t < types s
  pub hollow : Hollow s t
  pub lowest : (u : ℕ) → u < t → Filled s u

abbrev pub NoHollow : List ℕ → Type 0
NoHollow s = (t : ℕ) → t < types s → Filled s t

-- ---- the refusals of the call, in their order: 1, 2 to 7, 15, 8 to 11, then those of the default build (`built` gives 12, 13 or accepts)
pub data ForgottenRefuses (built : List ℕ → Verdict) (s : List ℕ) (n m k : ℕ) : ℕ → ℕ → Type 0 where
  for_room : (n < tree_room) ⊎ ((m < work_room) ⊎ (k < report_room)) → ForgottenRefuses built s n m k 1 0
  before_15 : tree_room ≤ n → work_room ≤ m → report_room ≤ k → (number place : ℕ) → verdict s ≡ refused number place → number ≤ 7
      → ForgottenRefuses built s n m k number place
  for_hollow : tree_room ≤ n → work_room ≤ m → report_room ≤ k → ((number place : ℕ) → verdict s ≡ refused number place → 8 ≤ number)
      → (t : ℕ) → LowestHollow s t → ForgottenRefuses built s n m k 15 t
  after_15 : tree_room ≤ n → work_room ≤ m → report_room ≤ k → NoHollow s → (number place : ℕ) → verdict s ≡ refused number place → 8 ≤ number
      → ForgottenRefuses built s n m k number place
  for_the_tree : tree_room ≤ n → work_room ≤ m → report_room ≤ k → NoHollow s → verdict s ≡ accepted
      → (number place : ℕ) → built s ≡ refused number place → ForgottenRefuses built s n m k number place

pub record Asked (built : List ℕ → Verdict) (s : List ℕ) (n m k : ℕ) : Type 0 where
  pub tree_room_holds : tree_room ≤ n
  pub work_room_holds : work_room ≤ m
  pub report_room_holds : report_room ≤ k
  pub filled : NoHollow s
  pub sheet : verdict s ≡ accepted
  pub tree : built s ≡ accepted

-- ---- what the call answers: the tree's length with Covered, or with the switch and its tests
pub data Report : Type 0 where
  covered : ℕ → Report
  gap : ℕ → ℕ → List Passed → Report

pub data ForgottenAnswers (built : List ℕ → Verdict) (s : List ℕ) (n m k : ℕ) : Answer Report → Type 0 where
  is_covered : Asked built s n m k → Covered s → ForgottenAnswers built s n m k (answers (covered (length (sheet_tree_file s))))
  is_forgotten : Asked built s n m k → (at : ℕ) (ts : List Passed) → LowestForgotten s at ts
      → ForgottenAnswers built s n m k (answers (gap (length (sheet_tree_file s)) at ts))
  is_refused : (number place : ℕ) → ForgottenRefuses built s n m k number place → ForgottenAnswers built s n m k (refuses number place)

unfoldable pub passed_words : List Passed → List ℕ
passed_words [] = []
passed_words (t ∷ ts) = t.node ∷ t.branch ∷ passed_words ts

unfoldable pub report_words : Report → List ℕ
unfolding passed_words
report_words (covered bytes) = []
report_words (gap bytes at ts) = passed_words ts

abbrev pub reported : Answer Report → ℕ → List ℕ
reported (answers x) k = written (answers x) (report_words x) k
reported (refuses number place) k = zeros k

-- the whole promise: the answer, and every byte of tree and work and every word of report after the call
pub record ForgottenCall (built : List ℕ → Verdict) (s : List ℕ) (n m k : ℕ) (r : Answer Report) (tree work report : List ℕ) : Type 0 where
  pub answer : ForgottenAnswers built s n m k r
  pub tree_is : tree ≡ written r (sheet_tree_file s) n
  pub work_is : work ≡ zeros m
  pub report_is : report ≡ reported r k
