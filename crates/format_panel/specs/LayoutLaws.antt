-- The layout and the map of a panel, and one record of it, from what was read.
-- Rests on the definitions of the crate spec_rules alone.
use Rattle.std.specs.Prelude.{◌≡◌, Bool, List, ℕ, zero, suc, ◌+◌, ◌-◌, ◌*◌, ◌/◌, eqb, leb, length, get_or}
use Rattle.std.proofs.Common.{ap, sym, arith, zero-add, div-one}
use borrow.Author.Tests.{ne_eqb}
use native.Mathlib.Nat.{sub-zero}
use Rattle.base_words.specs.Words.{word_at, both}
use Rattle.base_words.specs.WordsLaws.{both_assoc}
use Rattle.spec_rules.specs.Limits.{record_size, part_size, panel_trailer, records_most}
use Rattle.spec_rules.specs.SheetRefusals.{whole_records}
use Rattle.spec_rules.specs.PanelFile.{panel_start, records_at, parts_at, panel_pool_at, panel_pool_end, records, parts, panel_pool_size, record_kind, record_zero, record_a, record_first, record_count, panel_layout_fits}
use Rattle.spec_accepted.specs.PanelFacts.{PanelLaid}
use Rattle.format_parts.specs.declared.sections.Section.{Section}
use Rattle.format_parts.specs.Sections.{section_of}
use Rattle.format_panel.specs.declared.PanelMap.{PanelMap}
use Rattle.format_panel.specs.declared.records.Record.{Record}
use Rattle.format_panel.specs.Opened.{map_of, record_of}

regroup : (a b c d : Bool) → both (both a (both b c)) d ≡ both a (both b (both c d))
regroup a b c d = simp both_assoc

module _ (v : List ℕ) where
  -- the layout of sections that start at a, b and c
  pub layout_read : (a b c : ℕ) → a ≡ panel_start v 0 → b ≡ panel_start v 1 → c ≡ panel_start v 2
      → both (eqb a 0)
      (both (whole_records record_size a b)
      (both (whole_records part_size b c)
      (both (whole_records 1 c (length v - panel_trailer))
      (both (leb 1 (b / record_size)) (leb (b / record_size) records_most)))))
      ≡ panel_layout_fits v
  unfolding panel_layout_fits records records_at parts_at panel_pool_at panel_pool_end
  layout_read zero b c ea eb ec =
      let from_zero : (b - 0) / record_size ≡ b / record_size = ap (λ (x : ℕ). x / record_size) (sub-zero b) in
      rw (← ea, ← eb, ← ec, from_zero) (sym (regroup (whole_records record_size 0 b) (whole_records part_size b c) (whole_records 1 c (length v - panel_trailer)) (both (leb 1 (b / record_size)) (leb (b / record_size) records_most))))
  layout_read (suc a) b c ea eb ec = rw (← ea, ne_eqb (suc a) 0 (λ e. omega arith))

  -- the map, made of sections from one start to the next
  pub map_read : (a b c : ℕ) → a ≡ panel_start v 0 → b ≡ panel_start v 1 → c ≡ panel_start v 2
      → (ra pa po : Section) → ra ≡ section_of a b record_size → pa ≡ section_of b c part_size → po ≡ section_of c (length v - panel_trailer) 1
      → ◌≡◌ {A = PanelMap} (record { records = ra; parts = pa; pool = po }) (map_of v)
  unfolding records_at parts_at panel_pool_at panel_pool_end records parts panel_pool_size
  map_read a b c ea eb ec ra pa po er ep eo = simp (er, ep, eo, ea, eb, ec, div-one)

  pub record_read : (r a f n : ℕ) → PanelLaid v
      → a ≡ word_at v (record_size * r + 2) → f ≡ word_at v (record_size * r + 4) → n ≡ word_at v (record_size * r + 6)
      → ◌≡◌ {A = Record} (record { kind = get_or v (record_size * r) 0; zero = get_or v (record_size * r + 1) 0; a = a; first = f; count = n }) (record_of v r)
  unfolding record_kind record_zero record_a record_first record_count
  record_read r a f n laid ea ef en = rw (ea, ef, en, laid.records_start, zero-add)
