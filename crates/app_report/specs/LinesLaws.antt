-- The lines of bindings, one at a time from the words of a binding buffer; and that the words which a walk leaves give the lines of what it
-- bound.
use Rattle.std.specs.Prelude.{◌≡◌, refl, List, [], ◌∷◌, ◌++◌, ℕ, zero, suc, ◌+◌, ◌-◌, ◌*◌, ◌≤◌, ◌<◌, length, get_or}
use Rattle.std.proofs.Common.{sym, ap, ◌∙◌, append_assoc, arith}
use Rattle.spec_rules.specs.Walking.{Bound}
use Rattle.spec_rules.specs.Calls.{bound_words}
use Rattle.spec_rules.specs.RefusalNumbers.{stuck_refusal}
use Rattle.spec_rules.specs.Listing.{leaf_word, refused_word, decimal}
use Rattle.app_report.specs.Telling.{record_word, dropped_word, place_text, binding_line, binding_lines, leaf_line, stuck_line}
use Rattle.app_report.specs.Lines.{word_lines}

-- ---- one line as it is written, part by part
pub binding_is : (v : List ℕ) (name r d : ℕ)
    → 110 ∷ (decimal name ++ (record_word ++ (decimal r ++ (dropped_word ++ (decimal d ++ (place_text v r d ++ 10 ∷ [])))))) ≡ binding_line v name r d
unfolding binding_line
binding_is v name r d = refl

pub leaf_is : (clause : ℕ) (others : List ℕ) → leaf_word ++ (32 ∷ (decimal clause ++ (10 ∷ others))) ≡ leaf_line clause ++ others
unfolding leaf_line
leaf_is clause others = ap (λ (l : List ℕ). leaf_word ++ (32 ∷ l)) (sym (append_assoc (decimal clause) (10 ∷ []) others))

pub stuck_is : (node step : ℕ) → refused_word ++ (32 ∷ (decimal stuck_refusal ++ (32 ∷ (decimal node ++ (32 ∷ (decimal step ++ 10 ∷ [])))))) ≡ stuck_line node step
unfolding stuck_line
stuck_is node step = refl

-- ---- n bindings, of which k are written
module _ (v words : List ℕ) (n : ℕ) where
  pub lines_start : word_lines v words (3 * 0) (n - 0) ≡ word_lines v words 0 n
  lines_start = let e : n - 0 ≡ n = omega arith in rw e

  pub lines_next : (k : ℕ) → k < n
      → word_lines v words (3 * k) (n - k)
      ≡ binding_line v (get_or words (3 * k) 0) (get_or words (3 * k + 1) 0) (get_or words (3 * k + 2) 0) ++ word_lines v words (3 * (k + 1)) (n - (k + 1))
  lines_next k h =
      let e : n - k ≡ suc (n - (k + 1)) = omega arith in
      let f : 3 * (k + 1) ≡ 3 * k + 3 = omega arith in
      rw (e, f) (unfold word_lines in refl)

  pub lines_none : (k : ℕ) → n ≤ k → word_lines v words (3 * k) (n - k) ≡ []
  lines_none k h = let e : n - k ≡ 0 = omega arith in rw e (unfold word_lines in refl)

-- ---- the words that a walk leaves
-- a word before those that are read
lines_past : (v : List ℕ) (w : ℕ) (words : List ℕ) (i n : ℕ) → word_lines v (w ∷ words) (suc i) n ≡ word_lines v words i n
unfolding word_lines
lines_past v w words i zero = refl
lines_past v w words i (suc n) =
    let one : suc i + 1 ≡ suc (i + 1) = omega arith in
    let two : suc i + 2 ≡ suc (i + 2) = omega arith in
    let three : suc i + 3 ≡ suc (i + 3) = omega arith in
    rw (one, two, three, lines_past v w words (i + 3) n)

pub lines_bound : (v : List ℕ) (xs : List Bound) (others : List ℕ) → word_lines v (bound_words xs ++ others) 0 (length xs) ≡ binding_lines v xs
unfolding word_lines bound_words binding_lines
lines_bound v [] others = refl
lines_bound v (x ∷ xs) others =
    let rest = bound_words xs ++ others in
    ap (λ (l : List ℕ). binding_line v x.name x.position.place x.position.dropped ++ l)
    (lines_past v x.name (x.position.place ∷ x.position.dropped ∷ rest) 2 (length xs)
    ∙ lines_past v x.position.place (x.position.dropped ∷ rest) 1 (length xs)
    ∙ lines_past v x.position.dropped rest 0 (length xs)
    ∙ lines_bound v xs others)
