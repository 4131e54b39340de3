use Rattle.std.proofs.Common.{rules, ◌≡◌, ◌∙◌}
use Rattle.std.proofs.Math.Path.{sym}
use Rattle.std.proofs.iter.runs.Made.{chains}
use Rattle.std.specs.List.{fold}
use Rattle.std.specs.Int.Bits.{bit_or}
use Rattle.base_words.proofs.Bits.{zeros_if_none, none_if_zeros}
use Rattle.base_words.proofs.is_zero.Goals as goal

pub returns : goal.returns
returns c =
    let bits : c.fold.result ≡ fold bit_or 0 c.args.block.now = search (rules, chains) in
    record {
      only_zeros = λ e. let none : c.fold.result ≡ 0 = search rules in zeros_if_none c.args.block.now (sym bits ∙ none);
      all_zeros = λ e. let none : c.fold.result ≡ 0 = bits ∙ none_if_zeros c.args.block.now e in search rules;
    }
