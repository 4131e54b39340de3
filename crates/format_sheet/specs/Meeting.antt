-- How often each of 192 things was met: what refusal 8 counts in place of searching a section for each pattern and each entry.
use Rattle.std.specs.Prelude.{ℕ, ◌+◌, ◌-◌, ◌≡◌, Bool, List, eqb, leb, ltb, length, get_or}
use Rattle.base_words.specs.Words.{both, pick}
use Rattle.spec_rules.specs.Limits.{patterns_most}
use Rattle.spec_rules.specs.Searching.{every, times}
use Rattle.spec_rules.specs.SheetFile.{children, clauses}
use Rattle.spec_rules.specs.SheetRefusals.{is_root, is_entry}

-- none of n things from i on
unfoldable pub none_met : List ℕ → ℕ → ℕ → Bool
none_met l i n = every (λ k. eqb (get_or l k 0) 0) i n

-- each of the first n things once
unfoldable pub met_once : List ℕ → ℕ → Bool
met_once l n = every (λ k. eqb (get_or l k 0) 1) 0 n

-- 1 for a thing among the n from i on, 0 for any other
unfoldable pub among : ℕ → ℕ → ℕ → ℕ
among i n k = pick (both (leb i k) (ltb k (i + n))) 1 0

-- the n things from i on were met once more
pub record Meets (i n : ℕ) (l l' : List ℕ) : Type 0 where
  pub kept : length l' ≡ length l
  pub met : (k : ℕ) → get_or l' k 0 ≡ get_or l k 0 + among i n k

-- nothing was met; a buffer for patterns, or for child entries, of which there may be as many
pub record NoneMet (l : List ℕ) : Type 0 where
  pub long : length l ≡ patterns_most
  pub none_met_holds : (k : ℕ) → get_or l k 0 ≡ 0

-- each pattern was met as often as it is a root; as often as it is a root or an entry
pub record RootsMet (s l : List ℕ) : Type 0 where
  pub long : length l ≡ patterns_most
  pub roots_met : (p : ℕ) → get_or l p 0 ≡ times (is_root s p) 0 (clauses s)

pub record AllMet (s l : List ℕ) : Type 0 where
  pub long : length l ≡ patterns_most
  pub all_met : (p : ℕ) → get_or l p 0 ≡ times (is_root s p) 0 (clauses s) + times (is_entry s p) 0 (children s)

-- a loop of n turns met thing k in each turn of which `meets k` holds, after `base k` times before; c turns are done
pub record Tally (meets : ℕ → ℕ → Bool) (base : ℕ → ℕ) (n c : ℕ) (l : List ℕ) : Type 0 where
  pub long : length l ≡ patterns_most
  pub tally : (k : ℕ) → get_or l k 0 + times (meets k) c (n - c) ≡ base k + times (meets k) 0 n
