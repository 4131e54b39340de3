use Rattle.format_sheet.specs.MeetingLaws.{meets_one}
use Rattle.format_sheet.proofs.standing.meet.Goals as goal

pub returns : goal.returns
returns c = meets_one c.args.times.now c.args.i c.requires.0
