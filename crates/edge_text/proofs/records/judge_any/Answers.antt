use Rattle.std.proofs.Common.{refl, ap, length, arith}
use Rattle.std.proofs.lemmas.List.{take_rest, length-drop}
use Rattle.peg_text.proofs.CursorLemmas.{IsSearched-none, record_found}
use Rattle.edge_text.proofs.records.judge_any.Goals as goal

pub returns : goal.returns
returns c =
    let bytes = c.args.bytes.now in
    let start = c.args.start in
    record {
      line = _;
      begins = record_found bytes _ start start c.in_ok-length.length _ _ (IsSearched-none bytes start c.requires) (take_rest bytes start) refl refl c.in_ok-length.ensures;
      judged = c.judge.ensures;
      inside = omega (arith, c.in_ok-length.ensures.0.high, ap length (take_rest bytes start), length-drop start bytes);
    }
