-- `splitting::first_matrix`: a matrix is what its parts hold.
use mathlib.Core.Path.{◌≡◌, refl, ap}
use Rattle.base_words.specs.Words.{zeros}
use Rattle.spec_rules.specs.Limits.{patterns_most}
use Rattle.spec_rules.specs.SheetFile.{clauses}
use Rattle.format_sheet.specs.declared.SheetMap.{SheetMap}
use Rattle.build_matrix.specs.ListsLaws.{holds_rows_same}
use Rattle.build_matrix.specs.RowStates.{up_from}
use Rattle.build_matrix.specs.Numbered.{first_numbered}
use Rattle.build_matrix.specs.InNumbersLaws.{stands_for}
use Rattle.build_matrix.proofs.splitting.first_matrix.Goals as goal

pub returns : goal.returns
unfolding first_numbered
returns c =
    let e : c.args.map.clauses.count ≡ clauses c.args.sheet.now = ap (λ (m : SheetMap). m.clauses.count) c.requires.checked.is_map in
    stands_for
    (record { rows = c.all_rows-rows.result; columns = c.first_columns-columns.result; tested = c.empty.result; opened = zeros patterns_most })
    (first_numbered c.args.sheet.now)
    (holds_rows_same c.all_rows-rows.ensures (ap (up_from 0) e)) c.first_columns-columns.ensures c.empty.ensures refl refl
