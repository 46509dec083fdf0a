-- The stream of a node, word by word.
use Rattle.std.proofs.Common.{◌≡◌, ℕ, zero, suc, ◌+◌, refl, ap, arith}
use Rattle.rand_pcg.specs.Lcg.{Lcg, next_state, advance, state_after}
use Rattle.rand_pcg.specs.Pcg.{multiplier_64, pcg32}

state_after_last : (w m p n s : ℕ) → next_state w m p (state_after w m p n s) ≡ state_after w m p (suc n) s
unfolding state_after
state_after_last w m p zero s = refl
state_after_last w m p (suc n) s = state_after_last w m p n (next_state w m p s)

-- one word more leads one step further
pub advance_last : (n j : ℕ) (g : Lcg) → j ≡ n + 1 → (pcg32 (advance 64 multiplier_64 n g)).1 ≡ advance 64 multiplier_64 j g
advance_last n j g is =
    let e : j ≡ suc n = omega arith in
    rw e (ap (λ s. record g { state = s }) (state_after_last 64 multiplier_64 g.increment n g.state))
