-- A record goes on with the group that has begun, or ends it and begins another.
use Rattle.std.proofs.Common.{◌≡◌, [], sym, ◌∙◌}
use Rattle.peg_text.specs.Pairs.{key_of}
use Rattle.gimv_base.proofs.GroupLemmas.{begins_anew, not_bad, has_key-itself, takes_there, good_there}
use Rattle.gimv_base.proofs.grouped.take.Goals as goal

pub returns-then-is_open-clause-ok : goal.returns-then-is_open-clause-ok
returns-then-is_open-clause-ok g c =
    let is = rw (c.split_pair-pair.ensures.key, c.deref.ensures.value) at (sym c.is_open.ensures ∙ c.if-is_open.true) in
    takes_there (g.F.Grouping.part c.args.form.now) (g.F.Grouping.further c.args.form.now) c.go_on_open.result c.args.key.now.items c.args.text.now c.args.state.now
    c.go_on_open.new.state c.args.out.now.items c.go_on_open.new.out.items is c.go_on_open.ensures.ok

pub returns-then-is_open-clause-good : goal.returns-then-is_open-clause-good
returns-then-is_open-clause-good g c =
    let is = rw (c.split_pair-pair.ensures.key, c.deref.ensures.value) at (sym c.is_open.ensures ∙ c.if-is_open.true) in
    good_there (g.F.Grouping.part c.args.form.now) (g.F.Grouping.further c.args.form.now) c.go_on_open.result c.args.key.now.items c.args.text.now c.args.state.now
    c.go_on_open.new.state c.args.out.now.items c.go_on_open.new.out.items is
    (λ s. g.met.F.Grouping.blames_the_end c.args.form.now s c.args.text.now []) c.go_on_open.ensures.ok

pub returns-clause-ok : goal.returns-clause-ok
returns-clause-ok g c =
    let isnt = rw (c.split_pair-pair.ensures.key, c.deref.ensures.value) at (sym c.is_open.ensures ∙ c.if-is_open.false) in
    let key : c.replace.new.list.items ≡ key_of c.args.text.now = c.in_ok-replace.ensures.ok ∙ c.split_pair-pair.ensures.key in
    rw key (begins_anew (g.F.Grouping.part c.args.form.now) (g.F.Grouping.further c.args.form.now) c.args.key.now.items c.args.text.now c.args.state.now c.in_ok-begun.begun
    c.args.out.now.items c.close_open.new.out.items c.begin.new.out.items isnt c.in_ok-close_open.ensures.ok c.in_ok-begun.ensures.ok)

pub returns-clause-good : goal.returns-clause-good
returns-clause-good g c =
    let isnt = rw (c.split_pair-pair.ensures.key, c.deref.ensures.value) at (sym c.is_open.ensures ∙ c.if-is_open.false) in
    not_bad (g.F.Grouping.part c.args.form.now) (g.F.Grouping.further c.args.form.now) (key_of c.args.text.now) c.args.text.now c.in_ok-begun.begun _ _ _
    (has_key-itself c.args.text.now) (g.met.F.Grouping.blames_the_end c.args.form.now c.in_ok-begun.begun c.args.text.now [])
    (begins_anew (g.F.Grouping.part c.args.form.now) (g.F.Grouping.further c.args.form.now) c.args.key.now.items c.args.text.now c.args.state.now c.in_ok-begun.begun
    c.args.out.now.items c.close_open.new.out.items c.begin.new.out.items isnt c.in_ok-close_open.ensures.ok c.in_ok-begun.ensures.ok)
