-- The answers from what the code has found: an accepted panel with its map is open; and the text call, one law for each way out.
-- Rests on Answers, and on what an accepted panel gives.
use Rattle.std.proofs.Math.Path.{◌≡◌, refl, sym}
use Rattle.std.proofs.Common.{arith}
use Rattle.std.specs.Prelude.{Bool, false, ℕ, ◌+◌, ◌≤◌, ◌<◌, eqb, leb, ltb}
use Rattle.std.proofs.Math.Bool.{true}
use mathlib.Core.List.{List, []}
use borrow.Author.Tests.{leb-true, ltb-true}
use Rattle.std.proofs.Math.ListN.{length}
use Rattle.base_words.specs.Words.{both, text_at}
use Rattle.base_words.specs.WordsLaws.{both_true}
use Rattle.spec_rules.specs.Kinds.{bytes_record}
use Rattle.spec_rules.specs.RefusalNumbers.{no_text_refusal}
use Rattle.spec_rules.specs.SheetRefusals.{Verdict, accepted, refused, require}
use Rattle.spec_rules.specs.PanelFile.{records, record_kind, panel_pool_at, record_first, record_count, panel_verdict}
use Rattle.spec_rules.specs.Calls.{answers, refuses, Span, unless, has_text, text_call, part_of_span, text_part}
use Rattle.spec_accepted.specs.PanelFacts.{accepted_panel}
use Rattle.format_panel.specs.declared.PanelMap.{PanelMap}
use Rattle.format_panel.specs.declared.records.Record.{Record}
use Rattle.format_panel.specs.Opened.{map_of, record_of, Opened, opened}
use Rattle.format_panel.specs.Answers.{Accepts}
use Rattle.format_panel.specs.TextsLaws.{text_inside}

-- an accepted panel with its map is open
pub accepts_opened : (v : List ℕ) (m : PanelMap) → Accepts v m → Opened v m
accepts_opened v m a = opened v m (accepted_panel v a.verdict).is_laid a.map

-- what the check answers, on accepting
pub accepts : {v : List ℕ} {m : PanelMap} → accepted ≡ panel_verdict v → m ≡ map_of v → Accepts v m
accepts e map = record { verdict = sym e; map = map }

-- ---- the text call
module _ (v : List ℕ) (r dropped : ℕ) where
  pub panel_refused : {number place : ℕ} → refused number place ≡ panel_verdict v → refuses number place ≡ text_call v r dropped
  unfolding text_call
  panel_refused e = rw (← e)

  module _ (ok : accepted ≡ panel_verdict v) where
    pub text_refused : {number place : ℕ} → refused number place ≡ require (has_text v r dropped) no_text_refusal accepted → refuses number place ≡ text_call v r dropped
    unfolding text_call
    text_refused e = rw (← ok, ← e)

    module _ (has : has_text v r dropped ≡ true) where
      pub text_record : r < records v
      unfolding has_text
      text_record = ltb-true _ _ (both_true (ltb r (records v)) (both (leb (record_kind v r) bytes_record) (eqb dropped 0)) has).0

      short : record_kind v r ≤ bytes_record
      unfolding has_text
      short = leb-true _ _ (both_true (leb (record_kind v r) bytes_record) (eqb dropped 0) (both_true (ltb r (records v)) (both (leb (record_kind v r) bytes_record) (eqb dropped 0)) has).1).0

      module _ (m : PanelMap) (map : m ≡ map_of v) (x : Record) (read : x ≡ record_of v r) where
        pub text_within : m.pool.start + x.first + x.count ≤ length v
        text_within =
            let a = accepted_panel v (sym ok) in
            let b = text_inside v r x read m (opened v m a.is_laid map) a.is_shaped text_record (rw read short) in
            omega (arith, b)

        pub text_found : answers (record { start = m.pool.start + x.first; count = x.count }) ≡ text_call v r dropped
        unfolding text_call
        text_found = rw (← ok, has, map, read)

  -- the part that was found lies in the panel, and is the twin's answer
  pub part_none : {number place : ℕ} → refuses number place ≡ text_call v r dropped → [] ≡ text_part v r dropped
  unfolding text_part part_of_span
  part_none e = rw (← e)

  pub part_some : {x : Span} → answers x ≡ text_call v r dropped → text_at v x.start x.count ≡ text_part v r dropped
  unfolding text_part part_of_span
  part_some e = rw (← e)

  pub part_inside : {x : Span} → answers x ≡ text_call v r dropped → x.start + x.count ≤ length v
  unfolding text_call
  part_inside {x} h = go (panel_verdict v) refl (has_text v r dropped) refl h
    where
      place : Span
      place = record { start = panel_pool_at v + record_first v r; count = record_count v r }

      go : (w : Verdict) → panel_verdict v ≡ w → (b : Bool) → has_text v r dropped ≡ b
          → answers x ≡ unless w (unless (require b no_text_refusal accepted) (answers place)) → x.start + x.count ≤ length v
      go accepted e true f h =
          let s : x ≡ place = cc in
          rw s (text_within (sym e) f (map_of v) refl (record_of v r) refl)
      go accepted e false f h = let z : ◌≡◌ {A = ℕ} 0 1 = cc in absurd (omega arith)
      go (refused number place) e b f h = let z : ◌≡◌ {A = ℕ} 0 1 = cc in absurd (omega arith)
