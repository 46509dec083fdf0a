use Rattle.std.proofs.Common.{rules, tests, map, not, ap}
use Rattle.std.specs.String.{string_bytes}
use Rattle.std.proofs.lemmas.Iterator.{YieldsList-from_slice}
use Rattle.std.proofs.lemmas.Iterator.Search.{any_from_yields_List}
use Rattle.conf.specs.Settings.{settings}
use Rattle.conf.specs.Rules.{gives}
use Rattle.conf.proofs.rules.is_bad_option.Goals as goal

pub returns : goal.returns
returns c =
    let test = gives (map string_bytes c.args.words.now) c.args.command c.args.at in
    ap not (any_from_yields_List test _ _ _ c.any.ensures.ran (YieldsList-from_slice settings cc) (λ x b q k. search (rules, tests)))
