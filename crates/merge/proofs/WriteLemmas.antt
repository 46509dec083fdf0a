-- What appends, and reading between them, leave of a file.
use Rattle.std.proofs.Common.{◌≡◌, ap, Result, Ok, Err}
use Rattle.std.specs.Prelude.{OnOk}
use Rattle.peg_base.specs.Names.{Names}
use Rattle.dir_disk.specs.State.{State, StandsOutside}
use Rattle.dir_disk.specs.Moments.{Told, Through, Both, files}
use Rattle.dir_disk.proofs.Through.{weaker}

pub on_ok : {T E P : Type 0} (result : Result T E) → P → OnOk result P
on_ok (Ok value) holds = holds
on_ok (Err fault) holds = tt

pub ok_then : {T E P Q : Type 0} (result : Result T E) → (P → Q) → OnOk result P → OnOk result Q
ok_then (Ok value) next holds = next holds
ok_then (Err fault) next holds = tt

-- ---- at every moment

-- where nothing changes, all outside a path stands
pub same_stands : (top : Names) (a b : Told) → Through (Both (λ state. state ≡ files a)) a b → Through (Both (StandsOutside top (files a))) a b
same_stands top a b steps =
    weaker (Both (λ state. state ≡ files a)) (Both (StandsOutside top (files a))) a b (λ s t both. (λ q apart. ap (λ (u : State). u q) both.0, λ q apart. ap (λ (u : State). u q) both.1)) steps
