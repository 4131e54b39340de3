use Rattle.std.proofs.Common.{rules}
use Rattle.base_words.specs.WordsLaws.{bytes_of_fits}
use Rattle.format_tree.specs.CheckLaws.{accepted_is}
use Rattle.app_listing.specs.AnswersLaws.{ended, call_refused, call_listed}
use Rattle.app_listing.proofs.listing.Goals as goal

pub returns-in_err-map : goal.returns-in_err-map
returns-in_err-map c = search (rules, call_refused c.args.tree.now _ c.zero_all.ensures)

pub put_listing-end-requires : goal.put_listing-end-requires
put_listing-end-requires c =
    let a = accepted_is c.args.tree.now c.in_ok-map.map (search (rules, bytes_of_fits)) c.in_ok-map.ensures.verdict c.in_ok-map.ensures.map in
    record { mapped = a.map_is; rules = a.sound.is_ruled }

pub returns : goal.returns
returns c =
    let a = accepted_is c.args.tree.now c.in_ok-map.map (search (rules, bytes_of_fits)) c.in_ok-map.ensures.verdict c.in_ok-map.ensures.map in
    call_listed _ _ _ _ a.fits (ended _ _ c.zero_all.ensures c.put_listing-end.ensures c.written.ensures)
