use Rattle.std.proofs.Common.{◌+◌, ◌*◌, ◌/◌, ◌<◌, ℕ, length, ap, refl, rules}
use Rattle.std.proofs.lemmas.List.Elements.{All-from_get_or}
use Rattle.pairs.specs.Prefixes.{AreBytes}
use Rattle.spill.proofs.EntryLemmas.{rank_from_prefix}
use Rattle.spill.proofs.entry.rank.Goals as goal

pub returns : goal.returns
returns c =
    let bytes : AreBytes c.args.key.now = All-from_get_or (λ b. b < 256) c.args.key.now 0 (λ k inside. search (rules, c.type_inv.key)) in
    rank_from_prefix c.args.key.now c.front_of.result (length c.args.key.now) (c.front_of.result / 256 * 256 + c.min.result) bytes c.front_of.ensures refl (ap (λ (n : ℕ). c.front_of.result / 256 * 256 + n) c.min.ensures)
