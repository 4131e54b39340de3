-- Stores of fields one after another as the store of a record.
-- Rests on the laws of stores; nothing here asks for room in the buffer that is written.
use Rattle.std.specs.Prelude.{◌≡◌, List, [], ◌∷◌, ◌++◌, ℕ, ◌+◌}
use Rattle.std.proofs.Math.Path.{refl, ap}
use Rattle.std.proofs.Common.{◌∙◌, arith, add-one}
use Rattle.std.proofs.Math.ListN.{set}
use Rattle.base_words.specs.Words.{word_bytes}
use Rattle.base_words.specs.Stored.{stored}
use Rattle.base_words.specs.StoredLaws.{stored_append}
use Rattle.spec_rules.specs.TreeFile.{node_bytes}
use Rattle.spec_file.specs.RecordsLaws.{case_fields}
use Rattle.format_records.specs.Records.{step_record}

module _ (l : List ℕ) (at : ℕ) where
  pub head_stored : (kind next : ℕ) → set (set l at kind) (at + 1) next ≡ stored l at (kind ∷ next ∷ [])
  unfolding stored
  head_stored kind next = ap (λ z. set (set l at kind) z next) (add-one at)

  pub words_stored : {l₁ l₂ : List ℕ} (a b : ℕ) → l₁ ≡ stored l at (word_bytes a) → l₂ ≡ stored l₁ (at + 2) (word_bytes b) → l₂ ≡ stored l at (word_bytes a ++ word_bytes b)
  words_stored a b e f = f ∙ ap (λ z. stored z (at + 2) (word_bytes b)) e ∙ stored_append l at (at + 2) (word_bytes a) (word_bytes b) refl

  pub step_stored : {l₁ l₂ : List ℕ} (kind flag index type : ℕ) → l₁ ≡ stored l at (kind ∷ flag ∷ []) → l₂ ≡ stored l₁ (at + 2) (word_bytes index ++ word_bytes type)
      → l₂ ≡ stored l at (step_record kind flag index type)
  step_stored kind flag index type e f =
      let ys = word_bytes index ++ word_bytes type in
      f ∙ ap (λ z. stored z (at + 2) ys) e ∙ stored_append l at (at + 2) (kind ∷ flag ∷ []) ys refl

  pub fields_stored : {l₁ l₂ l₃ : List ℕ} (kind number count child : ℕ) → l₁ ≡ stored l at (kind ∷ 0 ∷ []) → l₂ ≡ stored l₁ (at + 2) (word_bytes number ++ word_bytes count)
      → l₃ ≡ stored l₂ (at + 6) (word_bytes child) → l₃ ≡ stored l at (case_fields kind number count child)
  unfolding case_fields
  fields_stored kind number count child e f g =
      g
      ∙ ap (λ z. stored z (at + 6) (word_bytes child)) (step_stored kind 0 number count e f)
      ∙ stored_append l at (at + 6) (step_record kind 0 number count) (word_bytes child) refl

  pub node_stored : {l₁ l₂ l₃ l₄ : List ℕ} (kind a b c d e : ℕ) → l₁ ≡ stored l at (kind ∷ 0 ∷ []) → l₂ ≡ stored l₁ (at + 2) (word_bytes a ++ word_bytes b)
      → l₃ ≡ stored l₂ (at + 2 + 4) (word_bytes c ++ word_bytes d) → l₄ ≡ stored l₃ (at + 2 + 8) (word_bytes e) → l₄ ≡ stored l at (node_bytes kind a b c d e)
  unfolding node_bytes
  node_stored kind a b c d e f g h i =
      let ys = step_record kind 0 a b in
      let zs = word_bytes c ++ word_bytes d in
      i
      ∙ ap (λ z. stored z (at + 2 + 8) (word_bytes e)) (h ∙ ap (λ z. stored z (at + 2 + 4) zs) (step_stored kind 0 a b f g) ∙ stored_append l at (at + 2 + 4) ys zs (omega arith))
      ∙ stored_append l at (at + 2 + 8) (ys ++ zs) (word_bytes e) (omega arith)
