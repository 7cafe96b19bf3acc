-- Two written logs that say the same read back as the same.
use Prim.Native.Nat.{ℕ}
use mathlib.Core.Path.{◌≡◌, sym, ◌∙◌}
use mathlib.Core.List.{List}
use Rattle.definition_log.specs.meaning.ReadBack.{Log, read_log}
use Rattle.definition_log.specs.meaning.Written.{Written}

pub written_alike : {f w b w' b' : List ℕ} {n m n' m' : ℕ} {l l' : Log} → Written f w b n m l → Written f w' b' n' m' l' → l ≡ l'
    → read_log w b ≡ read_log w' b'
written_alike x y e = x.reads ∙ e ∙ sym y.reads

-- and the other way round
pub alike_written : {f w b w' b' : List ℕ} {n m n' m' : ℕ} {l l' : Log} → Written f w b n m l → Written f w' b' n' m' l'
    → read_log w b ≡ read_log w' b'
    → l ≡ l'
alike_written x y e = sym x.reads ∙ e ∙ y.reads
