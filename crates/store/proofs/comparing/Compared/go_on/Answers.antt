use Rattle.std.proofs.Common.{◌≡◌, ◌≤◌, ◌+◌, ◌-◌, ℕ, List, [], length, take, drop, ap, ◌∙◌, subst, arith, rules}
use Rattle.std.proofs.lemmas.List.{take_rest, length-drop}
use Rattle.dir_disk.specs.Moments.{files}
use Rattle.dir_disk.specs.State.{bytes_at}
use Rattle.store.specs.Differing.{common, lfs}
use Rattle.store.proofs.LookLemmas.{looked_bytes, looks_then}
use Rattle.store.proofs.ComparingLemmas.{parted_further, same_further, same_still}
use Rattle.store.proofs.comparing.Compared.go_on.Goals as goal

pub returns-then-count-eq0-clause-found : goal.returns-then-count-eq0-clause-found
returns-then-count-eq0-clause-found g c =
    λ tells before same.
    let bytes = bytes_at (files (g.D.Dir.told c.args.dir.now)) c.args.path.now in
    let text = c.args.text.now in
    let done = c.loop-done.done in
    let rest = take_rest text done in
    let here = looked_bytes c.args.path.now (g.D.Dir.told c.args.dir.now) (g.D.Dir.told c.loop-done.dir) (c.loop-done.invariant.stands tells) in
    let none : common (drop c.loop-done.self.place bytes) (drop done text) ≡ [] = subst (λ l. common (drop c.loop-done.self.place bytes) l ≡ []) rest (subst (λ l. common (drop c.loop-done.self.place l) (take (length text - done) (drop done text)) ≡ []) here (c.in_ok-count.ensures.parted tells c.if-count-eq0.true)) in
    let place = c.in_ok-count.ensures.place in
    let line = c.in_ok-count.ensures.line in
    let still = same_still bytes _ c.loop-done.self c.step.new.self (c.loop-done.invariant.same tells before same) (omega (arith, place, c.if-count-eq0.true)) (line ∙ ap (λ n. c.loop-done.self.line + lfs (take n (take (length text - done) (drop done text)))) c.if-count-eq0.true ∙ omega arith) in
    parted_further bytes before text c.step.new.self done still (subst (λ n. common (drop n bytes) (drop done text) ≡ []) (omega (arith, place, c.if-count-eq0.true)) none) (omega (arith, length-drop done text))

pub loop-done-preserved : goal.loop-done-preserved
loop-done-preserved g c =
    let text = c.args.text.now in
    let done = c.loop-done.done in
    let count = c.in_ok-count.count in
    let rest = take_rest text done in
    let few : count ≤ length (drop done text) = subst (λ (l : List ℕ). count ≤ length l) rest c.in_ok-count.ensures.few in
    record {
      inside = omega (arith, few, length-drop done text, c.loop-done.invariant.inside);
      counted = c.in_ok-count.ensures.counted;
      same =
          λ tells before same.
          let bytes = bytes_at (files (g.D.Dir.told c.args.dir.now)) c.args.path.now in
          let here = looked_bytes c.args.path.now (g.D.Dir.told c.args.dir.now) (g.D.Dir.told c.loop-done.dir) (c.loop-done.invariant.stands tells) in
          let next : take count (drop c.loop-done.self.place bytes) ≡ take count (drop done text) = subst (λ (l : List ℕ). take count (drop c.loop-done.self.place bytes) ≡ take count l) rest (subst (λ (l : List ℕ). take count (drop c.loop-done.self.place l) ≡ take count (take (length text - done) (drop done text))) here (c.in_ok-count.ensures.same tells)) in
          let line = c.in_ok-count.ensures.line ∙ ap (λ (l : List ℕ). c.loop-done.self.line + lfs (take count l)) rest in
          same_further bytes before text c.loop-done.self c.step.new.self done count (c.loop-done.invariant.same tells before same) next few c.in_ok-count.ensures.place line;
      stands = λ tells. looks_then (g.D.Dir.told c.args.dir.now) (g.D.Dir.told c.loop-done.dir) (g.D.Dir.told c.step.new.dir) (c.loop-done.invariant.stands tells) (c.step.ensures.stands tells);
      lent = search rules;
      beside = search rules;
      later = search rules;
    }
