-- A pattern held against its type (refusal 10), from the records that the code reads.
use Rattle.std.specs.Prelude.{◌≡◌, true, false, List, ℕ, ◌+◌, ◌-◌, ◌≤◌, ◌<◌, eqb}
use Rattle.std.proofs.Math.Path.{ap, ap₂, sym}
use Rattle.std.proofs.Common.{◌∙◌, arith}
use borrow.Author.Tests.{ne_eqb, le-leb, lt-leb}
use Rattle.base_words.specs.Words.{both}
use Rattle.spec_rules.specs.Kinds.{int_type, bytes_type, list_type, pair_type, tuple_type, data_type, discard_pattern, variable_pattern, assign_pattern, integer_pattern, byte_string_pattern, list_pattern, list_with_tail_pattern, constructor_pattern, pair_pattern, tuple_pattern}
use Rattle.spec_rules.specs.SheetFile.{patterns, children, pattern_kind, pattern_first, pattern_count, child}
use Rattle.spec_rules.specs.Patterns.{pattern_kind_of, takes_arguments}
use Rattle.spec_rules.specs.SheetRefusals.{has_children}
use Rattle.spec_accepted.specs.SheetFacts.{Shaped}
use Rattle.format_sheet.specs.declared.records.PatternRecord.{PatternRecord}
use Rattle.format_sheet.specs.declared.records.TypeRecord.{TypeRecord}
use Rattle.format_sheet.specs.declared.records.Run.{Run}
use Rattle.format_sheet.specs.declared.fitting.Question.{Question}
use Rattle.format_sheet.specs.declared.fitting.Question.TheVariants.{Settled, Inside}
use Rattle.format_sheet.specs.Records.{pattern_of, type_of}
use Rattle.format_sheet.specs.Records.{constructor_of as constructor_record}
use Rattle.format_sheet.specs.Fitting.{asks_for, arguments_fit, asked}

-- ---- a constructor's arguments
module _ (s : List ℕ) (r : PatternRecord) (ty : TypeRecord) where
  pub no_data : (ty.kind ≡ data_type → ⊥) → ◌≡◌ {A = Question} (Settled false) (arguments_fit s r ty)
  unfolding arguments_fit
  no_data n = rw (ne_eqb ty.kind data_type n)

  pub no_constructor : ty.kind ≡ data_type → ty.count ≤ r.a → ◌≡◌ {A = Question} (Settled false) (arguments_fit s r ty)
  unfolding arguments_fit
  no_constructor k l = rw (k, lt-leb (r.a + 1) ty.count (omega arith))

  pub arguments_are : ty.kind ≡ data_type → r.a < ty.count → (c : Run) → c ≡ constructor_record s (ty.first + r.a) → {x : Question}
      → x ≡ asks_for (eqb c.count r.count) r.first r.count c.first 1 → x ≡ arguments_fit s r ty
  unfolding arguments_fit
  arguments_are k l c e f = f ∙ rw (k, le-leb (r.a + 1) ty.count (omega arith), e)

-- ---- by the kind of the pattern
module _ (s : List ℕ) (p t : ℕ) (r : PatternRecord) (f : r ≡ pattern_of s p) (ty : TypeRecord) (g : ty ≡ type_of s t) where
  pub kind_is : r.kind ≡ pattern_kind s p
  kind_is = ap (λ (x : PatternRecord). x.kind) f

  first_is : r.first ≡ pattern_first s p
  first_is = ap (λ (x : PatternRecord). x.first) f

  count_is : r.count ≡ pattern_count s p
  count_is = ap (λ (x : PatternRecord). x.count) f

  -- what is asked, by the kind byte as it was read
  by_byte : (n : ℕ) → r.kind ≡ n → asked s p t (pattern_kind_of (pattern_kind s p)) ≡ asked s p t (pattern_kind_of n)
  by_byte n e = ap (λ (k : ℕ). asked s p t (pattern_kind_of k)) (sym kind_is ∙ e)

  pub discard_asks : r.kind ≡ discard_pattern → ◌≡◌ {A = Question} (Settled true) (asked s p t (pattern_kind_of (pattern_kind s p)))
  unfolding asked pattern_kind_of
  discard_asks e = sym (by_byte discard_pattern e)

  pub variable_asks : r.kind ≡ variable_pattern → ◌≡◌ {A = Question} (Settled true) (asked s p t (pattern_kind_of (pattern_kind s p)))
  unfolding asked pattern_kind_of
  variable_asks e = sym (by_byte variable_pattern e)

  pub assign_asks : {q : ℕ} → r.kind ≡ assign_pattern → q ≡ child s r.first → ◌≡◌ {A = Question} (Inside q) (asked s p t (pattern_kind_of (pattern_kind s p)))
  unfolding asked pattern_kind_of
  assign_asks e x = ap Inside (x ∙ ap (child s) first_is) ∙ sym (by_byte assign_pattern e)

  pub integer_asks : r.kind ≡ integer_pattern → ◌≡◌ {A = Question} (Settled (eqb ty.kind int_type)) (asked s p t (pattern_kind_of (pattern_kind s p)))
  unfolding asked pattern_kind_of
  integer_asks e = ap (λ (x : TypeRecord). Settled (eqb x.kind int_type)) g ∙ sym (by_byte integer_pattern e)

  pub bytes_asks : r.kind ≡ byte_string_pattern → ◌≡◌ {A = Question} (Settled (eqb ty.kind bytes_type)) (asked s p t (pattern_kind_of (pattern_kind s p)))
  unfolding asked pattern_kind_of
  bytes_asks e = ap (λ (x : TypeRecord). Settled (eqb x.kind bytes_type)) g ∙ sym (by_byte byte_string_pattern e)

  pub list_asks : {x : Question} → r.kind ≡ list_pattern → x ≡ asks_for (eqb ty.kind list_type) r.first r.count ty.first 0 → x ≡ asked s p t (pattern_kind_of (pattern_kind s p))
  unfolding asked pattern_kind_of
  list_asks e x = x ∙ ap₂ (λ (a : PatternRecord) (b : TypeRecord). asks_for (eqb b.kind list_type) a.first a.count b.first 0) f g ∙ sym (by_byte list_pattern e)

  pub rest_asks : {x : Question} → r.kind ≡ list_with_tail_pattern → x ≡ asks_for (eqb ty.kind list_type) r.first (r.count - 1) ty.first 0 → x ≡ asked s p t (pattern_kind_of (pattern_kind s p))
  unfolding asked pattern_kind_of
  rest_asks e x = x ∙ ap₂ (λ (a : PatternRecord) (b : TypeRecord). asks_for (eqb b.kind list_type) a.first (a.count - 1) b.first 0) f g ∙ sym (by_byte list_with_tail_pattern e)

  pub constructor_asks : {x : Question} → r.kind ≡ constructor_pattern → x ≡ arguments_fit s r ty → x ≡ asked s p t (pattern_kind_of (pattern_kind s p))
  unfolding asked pattern_kind_of arguments_fit takes_arguments
  constructor_asks e x = x ∙ ap₂ (arguments_fit s) f g ∙ sym (by_byte constructor_pattern e)

  pub pair_asks : {x : Question} → r.kind ≡ pair_pattern → x ≡ asks_for (both (eqb ty.kind pair_type) (eqb ty.count r.count)) r.first r.count ty.first 1 → x ≡ asked s p t (pattern_kind_of (pattern_kind s p))
  unfolding asked pattern_kind_of
  pair_asks e x = x ∙ ap₂ (λ (a : PatternRecord) (b : TypeRecord). asks_for (both (eqb b.kind pair_type) (eqb b.count a.count)) a.first a.count b.first 1) f g ∙ sym (by_byte pair_pattern e)

  pub tuple_asks : {x : Question} → r.kind ≡ tuple_pattern → x ≡ asks_for (both (eqb ty.kind tuple_type) (eqb ty.count r.count)) r.first r.count ty.first 1 → x ≡ asked s p t (pattern_kind_of (pattern_kind s p))
  unfolding asked pattern_kind_of
  tuple_asks e x = x ∙ ap₂ (λ (a : PatternRecord) (b : TypeRecord). asks_for (both (eqb b.kind tuple_type) (eqb b.count a.count)) a.first a.count b.first 1) f g ∙ sym (by_byte tuple_pattern e)

  -- ---- what is read is there
  pub assign_child : Shaped s → p < patterns s → r.kind ≡ assign_pattern → r.first < children s
  unfolding has_children pattern_kind_of
  assign_child sh h e =
      let k : pattern_kind s p ≡ assign_pattern = sym kind_is ∙ e in
      let one = sh.assign_one p h k in
      omega (arith, first_is, (sh.children_run p h (rw k)).inside)
