use Rattle.std.proofs.Common.{◌≡◌, ◌≤◌, ap, sym, subst, ℕ, List, length, drop, arith}
use Rattle.peg_text.specs.Records.{HasNoLf}
use Rattle.pairs.specs.Pairs.{IsPlain, Pair, pair_of}
use Rattle.pairs.specs.Taking.{Taken, line_of, pair_in}
use Rattle.pairs.proofs.TakingLemmas.{last_line, last_pair, plain_pair}
use Rattle.pairs.proofs.pair_buf.PairBuf.last.Goals as goal

pub returns-clause-found : goal.returns-clause-found
returns-clause-found c =
    let bytes = c.self.inside.bytes.items in
    let next = c.self.inside.next in
    let end = c.len-end.result in
    let place = c.placed-self-inside.result in
    let long : length bytes ≡ end = omega (arith, c.self.inside.bytes.ok.0) in
    let low : next ≤ end = omega (arith, long, c.self.invariant.scan.ordered, c.self.invariant.scan.inside) in
    let view : drop next bytes ≡ c.args.self.now.rest = ap (λ (t : Taken). t.rest) c.self.view_is in
    let is : pair_in bytes place ≡ pair_of (line_of bytes next end) = subst (λ (d : List ℕ). pair_in d place ≡ pair_of (line_of d next end)) c.deref.ensures.value c.placed-self-inside.ensures.pair in
    last_pair bytes c.args.self.now.rest next end (pair_in bytes place) view long low c.if-self-end.false c.requires is

pub returns-clause-plain : goal.returns-clause-plain
returns-clause-plain c =
    let bytes = c.self.inside.bytes.items in
    let next = c.self.inside.next in
    let end = c.len-end.result in
    let place = c.placed-self-inside.result in
    let long : length bytes ≡ end = omega (arith, c.self.inside.bytes.ok.0) in
    let view : drop next bytes ≡ c.args.self.now.rest = ap (λ (t : Taken). t.rest) c.self.view_is in
    let is : pair_in bytes place ≡ pair_of (line_of bytes next end) = subst (λ (d : List ℕ). pair_in d place ≡ pair_of (line_of d next end)) c.deref.ensures.value c.placed-self-inside.ensures.pair in
    let line = last_line bytes c.args.self.now.rest next end view long in
    subst (λ (p : Pair). IsPlain p) (sym is) (plain_pair (line_of bytes next end) (subst HasNoLf (sym line) c.requires))
