-- What holds of each pattern of an accepted sheet: it stands somewhere, an integer's and a byte string's text is a part of the pool, each
-- name is a pattern's, and what is tested at a path is of its type's kind. That it holds is in proofs/SheetPatterns.antt.
use Prim.Native.Nat.{ℕ, ◌+◌, ◌≤◌, ◌<◌}
use native.Mathlib.Omega.{arith}
use Rattle.std.specs.Prelude.{◌≡◌, length, get_or}
use Rattle.std.proofs.Math.Path.{ap}
use Rattle.std.proofs.Common.{◌∙◌}
use mathlib.Core.List.{List}
use Rattle.base_words.specs.Words.{text_at}
use Rattle.base_words.specs.WordsLaws.{length_text_at, get_or_text_at, texts_agree}
use Rattle.spec_rules.specs.Limits.{children_most}
use Rattle.spec_rules.specs.Kinds.{int_type, bytes_type, list_type, data_type}
use Rattle.spec_rules.specs.SheetFile.{patterns, pool_at, pool_size, type_kind, pattern_a, pool_text, pool}
use Rattle.spec_rules.specs.Patterns.{Pat, discard, variable, assign, integer, bytestring, listed, tailed, constructor, opened, many}
use Rattle.spec_rules.specs.Rows.{Path}
use Rattle.spec_accepted.specs.RunsLaws.{Run}
use Rattle.spec_accepted.specs.SheetFacts.{Laid, text_inside}
use Rattle.spec_file.specs.Writable.{InPool}
use Rattle.spec_theorems.specs.Stands.{Used}

-- ---- a text of the sheet is a part of its pool
pub text_in_pool : (s : List ℕ) → Laid s → (first count : ℕ) → Run first count (pool_size s) → InPool (pool s) first (pool_text s first count)
unfolding pool pool_text
text_in_pool s l first count r =
    let inside : pool_at s + first + count ≤ length s = omega (arith, text_inside l first count r.inside) in
    let whole : pool_at s + 0 + pool_size s ≤ length s = omega (arith, text_inside l 0 (pool_size s) (omega arith)) in
    let long : length (text_at s (pool_at s + first) count) ≡ count = length_text_at s (pool_at s + first) count inside in
    let long_pool : length (text_at s (pool_at s + 0) (pool_size s)) ≡ pool_size s = length_text_at s (pool_at s + 0) (pool_size s) whole in
    record {
      inside = omega (arith, r.inside);
      text = rw long (texts_agree (text_at s (pool_at s + 0) (pool_size s)) s first (pool_at s + first) count (omega (arith, r.inside)) inside each);
      empty_first = λ e. r.empty (omega arith);
    }
  where
    each : (k : ℕ) → k < count → get_or (text_at s (pool_at s + 0) (pool_size s)) (first + k) 0 ≡ get_or s (pool_at s + first + k) 0
    each k h =
        let e : pool_at s + 0 + (first + k) ≡ pool_at s + first + k = omega arith in
        get_or_text_at s (pool_at s + 0) (pool_size s) (first + k) 0 (omega (arith, r.inside)) ∙ ap (λ i. get_or s i 0) e

module _ (s : List ℕ) where
  -- x is the field a of a pattern of the sheet: a name, or a constructor's number
  pub record FieldA (x : ℕ) : Type 0 where
    pub number : ℕ
    pub known : number < patterns s
    pub is : x ≡ pattern_a s number

  -- what holds of a pattern of the sheet, by its kind
  abbrev pub FactsOf : Pat → Type 0
  FactsOf (discard m) = Unit {0}
  FactsOf (variable m x) = FieldA x
  FactsOf (assign m x q) = FieldA x
  FactsOf (integer m at w) = (type_kind s m.type ≡ int_type) × InPool (pool s) at w
  FactsOf (bytestring m at w) = (type_kind s m.type ≡ bytes_type) × InPool (pool s) at w
  FactsOf (listed m qs) = (type_kind s m.type ≡ list_type) × (many qs ≤ children_most)
  FactsOf (tailed m qs q) = (type_kind s m.type ≡ list_type) × (many qs ≤ children_most)
  FactsOf (constructor m a qs) = (type_kind s m.type ≡ data_type) × FieldA a
  FactsOf (opened m o qs) = Unit {0}

  abbrev pub Facts : Path → Pat → Type 0
  Facts x q = Used s x × FactsOf q
