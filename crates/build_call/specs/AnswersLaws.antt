-- The answers from what the code has found: one law for each way out of the call.
-- Rests on Answers, and on the laws of the build call.
use Rattle.std.specs.Prelude.{◌≡◌, refl, ◌⊎◌, Bool, true, false, List, ℕ, ◌≤◌, ◌<◌, leb, length, Result, Err}
use Rattle.std.proofs.Common.{sym, ap, ap₂, ◌∙◌, le-leb}
use Rattle.base_words.specs.Words.{zeros}
use Rattle.base_words.specs.WordsLaws.{both_make}
use Rattle.spec_rules.specs.Limits.{tree_room, work_room}
use Rattle.spec_rules.specs.RefusalNumbers.{room_refusal}
use Rattle.spec_rules.specs.SheetRefusals.{accepted, refused, require, verdict}
use Rattle.spec_rules.specs.Calls.{Answer, refuses, unless, Built, build_room, build_answer, build_call}
use Rattle.spec_theorems.specs.CallsLaws.{build_room_lem, build_sheet}
use Rattle.format_parts.specs.declared.refusals.Refusal.{Refusal}
use Rattle.format_parts.specs.Refusals.{number_of}
use Rattle.build_call.specs.declared.BuiltTree.{BuiltTree}
use Rattle.build_call.specs.Answers.{call_of, Gives, tree_end}

-- a refusal leaves the tree's buffer as it was, all zero
pub gives_refusal : (s : List ℕ) (a : Answer Built) (tree : List ℕ) (r : Refusal) → a ≡ refuses (number_of r.reason) r.place → tree ≡ zeros (length tree)
    → Gives s a tree tree (Err r)
gives_refusal s a tree r e z = record { answer = sym e; bytes = rw e z }

-- a condition that holds, and one that does not: its refusal
pub passed : (test : Bool) (number : ℕ) → accepted ≡ require test number accepted → test ≡ true
passed true number e = refl
passed false number e = cc

pub gives_unless : (s : List ℕ) (a : Answer Built) (tree : List ℕ) (test : Bool) (number : ℕ) (r : Refusal) → refused (number_of r.reason) r.place ≡ require test number accepted
    → (test ≡ false → a ≡ refuses number 0) → tree ≡ zeros (length tree) → Gives s a tree tree (Err r)
gives_unless s a tree test number r e not_met z = go test refl
  where
    go : (b : Bool) → test ≡ b → Gives s a tree tree (Err r)
    go true x = let bad : refused (number_of r.reason) r.place ≡ accepted = e ∙ ap (λ y. require y number accepted) x in cc
    go false x =
        let same : refused (number_of r.reason) r.place ≡ refused number 0 = e ∙ ap (λ y. require y number accepted) x in
        gives_refusal s a tree r (not_met x ∙ sym (ap (λ v. unless v a) same)) z

-- the same answer in other words
pub gives_same : (s : List ℕ) (a b : Answer Built) (tree tree' : List ℕ) (r : Result BuiltTree Refusal) → a ≡ b → Gives s a tree tree' r → Gives s b tree tree' r
gives_same s a b tree tree' r e g = rw e at g

module _ (s : List ℕ) (n m : ℕ) where
  -- 1
  pub no_room : (n < tree_room) ⊎ (m < work_room) → build_answer s n m ≡ refuses room_refusal 0
  no_room o = build_room_lem s n m o

  -- with room: the sheet's refusal, or the end for an accepted sheet
  module _ (a : tree_room ≤ n) (b : work_room ≤ m) where
    pub sheet_refused : (number place : ℕ) → verdict s ≡ refused number place → build_answer s n m ≡ refuses number place
    sheet_refused number place e = build_sheet s n m a b number place e

    pub sheet_accepted : verdict s ≡ accepted → build_answer s n m ≡ tree_end s
    unfolding build_answer build_room
    sheet_accepted e = rw (both_make (leb tree_room n) (leb work_room m) (le-leb tree_room n a) (le-leb work_room m b), e)

-- the whole call, once the work buffer is cleared: both buffers keep their lengths on the way
pub call_whole : (s : List ℕ) (n m n' m' : ℕ) (tree tree' work : List ℕ) (r : Result BuiltTree Refusal) → n' ≡ n → m' ≡ m → length tree ≡ n → Gives s (build_answer s n' m') tree tree' r
    → work ≡ zeros m → call_of r tree' work ≡ build_call s n m
unfolding build_call
call_whole s n m n' m' tree tree' work r a b e g z = let h = gives_same s _ (build_answer s n m) tree tree' r (ap₂ (build_answer s) a b) g in rw (h.answer, h.bytes, z, e)
