use Rattle.std.proofs.Common.{◌≡◌, List, ◌∙◌, ap, sym, subst, refl}
use Rattle.dir_disk.specs.Lent.{IsFree, IsNoOutput, Loan}
use Rattle.dir_disk.specs.Children.{Begins, Child, Seen, loans_of}
use Rattle.dir_disk.specs.Moments.{files}
use Rattle.dir_disk.specs.State.{bytes_of}
use Rattle.dir_mem.specs.Memory.{lent_of, told_of}
use Rattle.site_mem.specs.Memory.{Memory}
use Rattle.site_mem.proofs.site.MemSiteSite.start.Goals as goal

pub start-requires-clause-read : goal.start-requires-clause-read
start-requires-clause-read g c =
    let lent : loans_of c.args.self.now.seen.running ≡ lent_of c.self.inside.dir = ap (λ (m : Memory). loans_of m.seen.running) (sym c.self.view_is) ∙ sym c.self.invariant in
    subst (λ (l : List Loan). IsNoOutput l c.args.input.now) lent c.requires.read

pub start-requires-clause-free : goal.start-requires-clause-free
start-requires-clause-free g c =
    let lent : loans_of c.args.self.now.seen.running ≡ lent_of c.self.inside.dir = ap (λ (m : Memory). loans_of m.seen.running) (sym c.self.view_is) ∙ sym c.self.invariant in
    subst (λ (l : List Loan). IsFree l c.args.output.now) lent c.requires.free

pub returns-then-refuses-clause-seen : goal.returns-then-refuses-clause-seen
returns-then-refuses-clause-seen g c =
    let now = c.args.self.now in
    let child : Child = record { attempt = c.args.attempt.now; words = c.args.words.now; input = c.args.input.now; output = c.args.output.now; given = bytes_of (files (told_of now.dir) c.args.input.now).now } in
    subst (λ (s : Seen). Begins child s c.refuse.new.self.seen c.refuse.result) (ap (λ (m : Memory). m.seen) c.self.view_is) (c.refuse.ensures.seen child refl)
