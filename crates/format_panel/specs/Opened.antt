-- The map of a panel and one record of it as the code has them: each field is a definition of the crate spec_rules.
-- `Opened` is what the code above the layout's check asks of a panel and its map.
use Rattle.std.specs.Prelude.{◌≡◌, List, ℕ}
use Rattle.std.proofs.Common.{ap, ◌∙◌}
use Rattle.spec_rules.specs.PanelFile.{records_at, parts_at, panel_pool_at, records, parts, panel_pool_size, record_kind, record_zero, record_a, record_first, record_count}
use Rattle.spec_accepted.specs.PanelFacts.{PanelLaid}
use Rattle.format_panel.specs.declared.PanelMap.{PanelMap}
use Rattle.format_panel.specs.declared.records.Record.{Record}

abbrev pub map_of : List ℕ → PanelMap
map_of v = record {
  records = record { start = records_at v; count = records v };
  parts = record { start = parts_at v; count = parts v };
  pool = record { start = panel_pool_at v; count = panel_pool_size v };
}

abbrev pub record_of : List ℕ → ℕ → Record
record_of v r = record { kind = record_kind v r; zero = record_zero v r; a = record_a v r; first = record_first v r; count = record_count v r }

-- m is the map of the panel v, whose layout fits
pub record Opened (v : List ℕ) (m : PanelMap) : Type 0 where
  pub laid : PanelLaid v
  pub from_zero : m.records.start ≡ 0
  pub records_are : m.records.count ≡ records v
  pub parts_from : m.parts.start ≡ parts_at v
  pub parts_are : m.parts.count ≡ parts v
  pub pool_at : m.pool.start ≡ panel_pool_at v
  pub pool_size : m.pool.count ≡ panel_pool_size v

pub opened : (v : List ℕ) (m : PanelMap) → PanelLaid v → m ≡ map_of v → Opened v m
opened v m laid e = record {
  laid = laid;
  from_zero = ap (λ (x : PanelMap). x.records.start) e ∙ laid.records_start;
  records_are = ap (λ (x : PanelMap). x.records.count) e;
  parts_from = ap (λ (x : PanelMap). x.parts.start) e;
  parts_are = ap (λ (x : PanelMap). x.parts.count) e;
  pool_at = ap (λ (x : PanelMap). x.pool.start) e;
  pool_size = ap (λ (x : PanelMap). x.pool.count) e;
}
