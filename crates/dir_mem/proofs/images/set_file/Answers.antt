use Rattle.std.proofs.Common.{◌≡◌, ◌∙◌, Some, None, sym, ap, subst}
use Rattle.peg_base.specs.Names.{Names}
use Rattle.dir_mem.specs.Images.{image_of, with_file}
use Rattle.dir_mem.specs.Traces.{content_of}
use Rattle.dir_mem.proofs.ImageLemmas.{set_to}
use Rattle.dir_mem.proofs.images.set_file.Goals as goal

pub returns-in-None : goal.returns-in-None
returns-in-None c =
    set_to c.args.image.now c.remove.new.self c.args.path.now None (content_of c.args.content) c.remove.ensures.updates.0 (sym (ap content_of c.in-None.is))

pub returns-in_ok-insert-in-Some : goal.returns-in_ok-insert-in-Some
returns-in_ok-insert-in-Some c = λ other.
    let key = c.in_ok-copy-in-Some.field-0 in
    let value = c.in_ok-from_slice-in-Some.field-0 in
    let content = content_of c.args.content in
    subst (λ (p : Names). image_of c.insert.new.self other ≡ with_file p content (image_of c.args.image.now) other) c.in_ok-copy-in-Some.ensures (set_to c.args.image.now c.insert.new.self key (Some value) content c.in_ok-insert-in-Some.ensures.updates.0 (ap Some c.in_ok-from_slice-in-Some.ensures.items ∙ sym (ap content_of c.in-Some.is)) other)
