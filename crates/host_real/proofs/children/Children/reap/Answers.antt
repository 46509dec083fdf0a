use Rattle.std.proofs.Common.{rules, ◌≡◌, [], ◌∷◌, ◌++◌, ap, sym, refl, ◌∙◌}
use Rattle.std.specs.Prelude.{map}
use Rattle.dir_disk.specs.Children.{Child, Seen}
use Rattle.host_real.proofs.children.Children.reap.Goals as goal

-- src/children.rt:131:5
pub returns : goal.returns
returns g c =
    let taken = c.take_first-process in
    let child : Child = record { attempt = taken.result.seat.attempt; words = taken.result.seat.words; input = taken.result.seat.input; output = taken.result.seat.output; given = [] } in
    let others = map (λ one. (let seen : Child = record { attempt = one.seat.attempt; words = one.seat.words; input = one.seat.input; output = one.seat.output; given = [] } in seen)) taken.new.running.items in
    let first = sym (ap (λ (s : Seen). s.running) c.self.view_is) ∙ ap (λ items. map (λ one. (let seen : Child = record { attempt = one.seat.attempt; words = one.seat.words; input = one.seat.input; output = one.seat.output; given = [] } in seen)) items) taken.ensures.items in (
      child,
      record {
        before = [];
        after = others;
        was = first;
        running = refl;
        same = refl;
        log = search rules;
        start_faults = ap (λ (s : Seen). s.start_faults) c.self.view_is;
      },
      first,
    )
