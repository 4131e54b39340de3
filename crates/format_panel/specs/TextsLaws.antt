-- The text of a record, by its kind: one law for each way out of a function.
-- Rests on the tables of kinds, and on what is known of an open panel.
use Rattle.std.specs.Prelude.{◌≡◌, List, leb, length}
use Rattle.std.proofs.Math.Path.{refl, sym}
use Rattle.std.proofs.Common.{ap, ◌∙◌}
use Rattle.std.proofs.Math.Bool.{true}
use Prim.Native.Nat.{ℕ, ◌+◌, ◌≤◌, ◌<◌}
use native.Mathlib.Omega.{arith}
use Rattle.base_words.specs.Words.{both, text_at}
use Rattle.spec_rules.specs.Limits.{panel_trailer, text_most}
use Rattle.spec_rules.specs.Kinds.{integer_record, bytes_record}
use Rattle.spec_rules.specs.Texts.{canonical, short_text}
use Rattle.spec_rules.specs.PanelFile.{records, record_kind, record_first, record_count, record_text, RecordKind, Integer_record, Bytes_record, List_record, Pair_record, Tuple_record, Constructor_record, Unknown_record, record_kind_of, record_text_of_kind, record_text_fits}
use Rattle.spec_accepted.specs.KindsLaws.{record_byte}
use Rattle.spec_accepted.specs.PanelFacts.{PanelShaped, panel_text_inside}
use Rattle.format_panel.specs.declared.PanelMap.{PanelMap}
use Rattle.format_panel.specs.declared.records.Record.{Record}
use Rattle.format_panel.specs.Opened.{Opened, record_of}

-- x is record r as it was read
module _ (v : List ℕ) (r : ℕ) (x : Record) (read : x ≡ record_of v r) where
  kind_read : x.kind ≡ record_kind v r
  kind_read = ap (λ (y : Record). y.kind) read

  count_read : x.count ≡ record_count v r
  count_read = ap (λ (y : Record). y.count) read

  pub other_kind : (x.kind ≡ integer_record → ⊥) → (x.kind ≡ bytes_record → ⊥) → true ≡ record_text_fits v r
  unfolding record_text_fits record_text_of_kind record_kind_of
  other_kind zero one = go (record_kind_of (record_kind v r)) refl
    where
      go : (kind : RecordKind) → record_kind_of (record_kind v r) ≡ kind → true ≡ record_text_of_kind v r kind
      go Integer_record e = absurd (zero (kind_read ∙ record_byte (record_kind v r) Integer_record e (omega arith)))
      go Bytes_record e = absurd (one (kind_read ∙ record_byte (record_kind v r) Bytes_record e (omega arith)))
      go List_record e = refl
      go Pair_record e = refl
      go Tuple_record e = refl
      go Constructor_record e = refl
      go Unknown_record e = refl

  pub bytes_text : x.kind ≡ bytes_record → record_text_fits v r ≡ leb x.count text_most
  unfolding record_text_fits record_text_of_kind record_kind_of short_text
  bytes_text h = let e : record_kind v r ≡ bytes_record = sym kind_read ∙ h in rw (record_text_fits, e, count_read)

  module _ (m : PanelMap) (o : Opened v m) where
    pub integer_text : x.kind ≡ integer_record → record_text_fits v r ≡ both (leb x.count text_most) (canonical (text_at v (m.pool.start + x.first) x.count))
    unfolding record_text_fits record_text_of_kind record_kind_of short_text record_text
    integer_text h = let e : record_kind v r ≡ integer_record = sym kind_read ∙ h in rw (record_text_fits, e, o.pool_at, read)

    pub text_inside : PanelShaped v → r < records v → x.kind ≤ bytes_record → m.pool.start + x.first + x.count + panel_trailer ≤ length v
    text_inside sh l h =
        let run = sh.text_run r l (omega (arith, kind_read)) in
        rw (o.pool_at, read) (panel_text_inside o.laid (record_first v r) (record_count v r) run.inside)
