use Rattle.std.proofs.Common.{◌+◌, length, sym, ◌∙◌, arith}
use Rattle.std.proofs.lemmas.List.{take_rest, drop_all}
use Rattle.peg_text.proofs.PairLemmas.{key_of-is, value_of-is, key_of-all, value_of-none, first_tab_found, no_tab_found}
use Rattle.peg_text.proofs.pairs.split_pair.Goals as goal

pub returns-in-Some-clause-key : goal.returns-in-Some-clause-key
returns-in-Some-clause-key c = sym (key_of-is c.args.line.now c.in-Some.at (first_tab_found c.args.line.now c.in-Some.at c.in-Some.ensures))

pub returns-in-Some-clause-value : goal.returns-in-Some-clause-value
returns-in-Some-clause-value c =
    take_rest c.args.line.now (c.in-Some.at + 1) ∙ sym (value_of-is c.args.line.now c.in-Some.at (first_tab_found c.args.line.now c.in-Some.at c.in-Some.ensures))

pub returns-in-None-clause-key : goal.returns-in-None-clause-key
returns-in-None-clause-key c = sym (key_of-all c.args.line.now (no_tab_found c.args.line.now c.in-None.ensures))

pub returns-in-None-clause-value : goal.returns-in-None-clause-value
returns-in-None-clause-value c =
    let line = c.args.line.now in
    take_rest line (length line) ∙ drop_all (length line) line (omega arith) ∙ sym (value_of-none line (no_tab_found line c.in-None.ensures))
