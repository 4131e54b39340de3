-- A pattern's own step and the pattern above, as the code reads them off the table: inside it, and the bytes that it puts.
-- Rests on what the table says and on the laws of steps.
use Rattle.std.specs.Prelude.{◌≡◌, List, ℕ, ◌+◌, ◌-◌, ◌*◌, ◌≤◌, ◌<◌, length, get_or}
use Rattle.std.proofs.Common.{sym, ap, ◌∙◌, arith}
use Rattle.base_words.specs.Stored.{stored}
use Rattle.spec_rules.specs.Limits.{patterns_most, step_size}
use Rattle.spec_rules.specs.SheetFile.{types, patterns}
use Rattle.spec_rules.specs.TreeFile.{path_steps}
use Rattle.spec_file.specs.LengthLaws.{length_path_steps}
use Rattle.format_sheet.specs.declared.SheetMap.{SheetMap}
use Rattle.format_sheet.specs.declared.records.TypeRecord.{TypeRecord}
use Rattle.format_sheet.specs.Records.{type_of as type_of_record}
use Rattle.format_records.specs.Records.{step_record}
use Rattle.build_table.specs.Standing.{path_of, type_of, above_of, index_of, step_of, same_number, step_number}
use Rattle.build_table.specs.TypesLaws.{type_known}
use Rattle.build_table.specs.Table.{above_at, type_at, step_at, index_at, depth_at}
use Rattle.format_sheet.specs.Check.{SheetAccepts}
use Rattle.build_table.specs.Tabled.{Tabled}
use Rattle.build_file_tail.specs.Tail.{Puts, own_steps, flag_of}
use Rattle.build_file_tail.specs.StoringLaws.{puts_nothing, puts_as}
use Rattle.build_file_tail.specs.StepsLaws.{step_bytes_lem, no_step, above_known}

module _ {s : List ℕ} {m : SheetMap} {t : List ℕ} (ch : SheetAccepts s m) (tabled : Tabled s t) (p : ℕ) (h : p < patterns s) where
  -- ---- where the table has it
  pub known_small : p < patterns_most
  known_small = omega (arith, h, ch.ok.is_counted.patterns_most_holds)

  pub above_is : (above : ℕ) → above ≡ get_or t (above_at + p) 0 → above ≡ above_of s p
  above_is above e = e ∙ (tabled.placed p h).above

  -- the type of the part stepped from
  pub above_type : (above type : ℕ) → above ≡ get_or t (above_at + p) 0 → type ≡ get_or t (type_at + above) 0 → type ≡ type_of s (above_of s p)
  above_type above type e f =
      f ∙ ap (λ (q : ℕ). get_or t (type_at + q) 0) (above_is above e) ∙ (tabled.placed (above_of s p) (above_known ch.ok p h)).type

  pub above_type_known : (above type : ℕ) → above ≡ get_or t (above_at + p) 0 → type ≡ get_or t (type_at + above) 0 → type < types s
  above_type_known above type e f =
      omega (arith, above_type above type e f, type_known ch.ok (above_of s p) (above_known ch.ok p h))

  pub depth_is : (count : ℕ) → count ≡ get_or t (depth_at + p) 0 → step_size * count ≡ length (path_steps (path_of s p))
  depth_is count e = omega (arith, e, (tabled.classed p h).depth, length_path_steps (path_of s p))

  -- ---- no step
  pub none_put : get_or t (step_at + p) 0 ≡ same_number → (l : List ℕ) (end : ℕ) → Puts l l end end (path_steps (own_steps (step_of s p)))
  unfolding path_steps
  none_put e l end = puts_as (puts_nothing l end) (sym (ap path_steps (no_step ch.ok p (sym (tabled.placed p h).step ∙ e))))

  -- ---- a step
  module _ (is_step : get_or t (step_at + p) 0 ≡ same_number → ⊥) where
    own_bytes : path_steps (own_steps (step_of s p))
        ≡ step_record (step_number (step_of s p)) (flag_of (step_number (step_of s p)) (type_of_record s (type_of s (above_of s p)))) (index_of s p) (type_of s (above_of s p))
    own_bytes = step_bytes_lem ch.ok p h (λ e. is_step ((tabled.placed p h).step ∙ e))

    pub own_size : length (path_steps (own_steps (step_of s p))) ≡ step_size
    own_size = ap length own_bytes

    pub own_step_put : (above type flag index : ℕ) (ty : TypeRecord) → above ≡ get_or t (above_at + p) 0 → type ≡ get_or t (type_at + above) 0
        → ty ≡ type_of_record s type → flag ≡ flag_of (get_or t (step_at + p) 0) ty → index ≡ get_or t (index_at + p) 0
        → (l : List ℕ) (end : ℕ) {after : List ℕ} → length (path_steps (own_steps (step_of s p))) ≤ end
        → after ≡ stored l (end - step_size) (step_record (get_or t (step_at + p) 0) flag index type)
        → Puts l after (end - step_size) end (path_steps (own_steps (step_of s p)))
    own_step_put above type flag index ty ea et ey ef ei l end room e =
        let type_same : type ≡ type_of s (above_of s p) = above_type above type ea et in
        let number : get_or t (step_at + p) 0 ≡ step_number (step_of s p) = (tabled.placed p h).step in
        let index_same : index ≡ index_of s p = ei ∙ (tabled.placed p h).index in
        let flag_same : flag ≡ flag_of (step_number (step_of s p)) (type_of_record s (type_of s (above_of s p))) =
        ef ∙ rw (number, ey, type_same) in
        let bytes : step_record (get_or t (step_at + p) 0) flag index type ≡ path_steps (own_steps (step_of s p)) =
        rw (number, flag_same, index_same, type_same) (sym own_bytes) in
        record {
          is_stored = e ∙ ap (stored l (end - step_size)) bytes;
          is_end = omega (arith, own_size, room);
        }
