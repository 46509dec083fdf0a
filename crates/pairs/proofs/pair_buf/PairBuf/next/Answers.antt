use Rattle.std.proofs.Common.{◌≡◌, ◌∙◌, ◌+◌, ap, sym, subst, refl, ℕ, List, length, drop, arith}
use Rattle.std.proofs.lemmas.List.{take_rest}
use Rattle.peg_text.specs.Cursor.{IsSearched}
use Rattle.peg_text.specs.Records.{BeginsWithRecord}
use Rattle.peg_text.proofs.CursorLemmas.{all_searched, rest_unbroken, record_found}
use Rattle.pairs.specs.Pairs.{IsPlain, Pair, pair_of}
use Rattle.pairs.specs.Taking.{Taken, line_of, pair_in}
use Rattle.pairs.proofs.TakingLemmas.{plain_pair, takes_first_pair}
use Rattle.pairs.proofs.pair_buf.PairBuf.next.Goals as goal
use Rattle.pairs.proofs.pair_buf.PairBuf.next.Goals.{In-None, In-Some}

-- after a search that found nothing all is searched
searched_all : (c : In-None) → IsSearched c.self.inside.bytes.items c.self.inside.next (length c.self.inside.bytes.items)
searched_all c =
    all_searched c.self.inside.bytes.items _ c.self.inside.next c.self.inside.searched c.self.invariant.scan (take_rest c.deref.result.now c.self.inside.searched ∙ ap (drop c.self.inside.searched) c.deref.ensures.value) c.in-None.ensures

pub invariant_of-self : goal.invariant_of-self
invariant_of-self c =
    let len : length c.self.inside.bytes.items ≡ c.len-self-inside.result = omega (arith, c.self.inside.bytes.ok.0) in
    record {
      place = c.self.invariant.place;
      scan = subst (λ (n : ℕ). IsSearched c.self.inside.bytes.items c.self.inside.next n) len (searched_all (goal.at.invariant_of-self c).In-None);
    }

pub returns-in-None-clause-none : goal.returns-in-None-clause-none
returns-in-None-clause-none c =
    rest_unbroken c.self.inside.bytes.items c.self.inside.next (searched_all (goal.at.returns-in-None-clause-none c).In-None)

-- the line that was found
begins : (c : In-Some) → BeginsWithRecord c.args.self.now.rest (line_of c.self.inside.bytes.items c.self.inside.next (c.self.inside.searched + c.in-Some.length)) (drop (c.self.inside.searched + c.in-Some.length + 1) c.self.inside.bytes.items)
begins c =
    record_found c.self.inside.bytes.items _ c.self.inside.next c.self.inside.searched c.in-Some.length c.args.self.now.rest _ c.self.invariant.scan (take_rest c.deref.result.now c.self.inside.searched ∙ ap (drop c.self.inside.searched) c.deref.ensures.value) (ap (λ (t : Taken). t.rest) c.self.view_is) refl c.in-Some.ensures

pub returns-in-Some-clause-found : goal.returns-in-Some-clause-found
returns-in-Some-clause-found c =
    let bytes = c.self.inside.bytes.items in
    let next = c.self.inside.next in
    let end : ℕ = c.self.inside.searched + c.in-Some.length in
    let place = c.placed-self-inside.result in
    let is : pair_in bytes place ≡ pair_of (line_of bytes next end) = subst (λ (d : List ℕ). pair_in d place ≡ pair_of (line_of d next end)) c.deref-in-Some.ensures.value c.placed-self-inside.ensures.pair in
    takes_first_pair c.args.self.now.rest (line_of bytes next end) (drop (end + 1) bytes) (pair_in bytes place) (begins (goal.at.returns-in-Some-clause-found c).In-Some) is

pub returns-in-Some-clause-plain : goal.returns-in-Some-clause-plain
returns-in-Some-clause-plain c =
    let bytes = c.self.inside.bytes.items in
    let next = c.self.inside.next in
    let end : ℕ = c.self.inside.searched + c.in-Some.length in
    let place = c.placed-self-inside.result in
    let is : pair_in bytes place ≡ pair_of (line_of bytes next end) = subst (λ (d : List ℕ). pair_in d place ≡ pair_of (line_of d next end)) c.deref-in-Some.ensures.value c.placed-self-inside.ensures.pair in
    subst (λ (p : Pair). IsPlain p) (sym is) (plain_pair (line_of bytes next end) (begins (goal.at.returns-in-Some-clause-plain c).In-Some).unbroken)
