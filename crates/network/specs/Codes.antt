-- The bytes that stand for kinds of records and for activations.
use Rattle.std.specs.Prelude.{ℕ, cond, Ok, Err, Result, ◌==◌}
use Rattle.network.specs.declared.kind.RecordKind.{RecordKind}
use Rattle.network.specs.declared.kind.RecordKind.TheVariants.{Layer, Bias, Weight, Sample}
use Rattle.network.specs.declared.activation.Activation.{Activation}
use Rattle.network.specs.declared.activation.Activation.TheVariants.{Identity, Tanh}
use Rattle.network.specs.declared.code.UnknownCode.{UnknownCode}

-- the byte of each kind
abbrev pub code_of : RecordKind → ℕ
code_of Layer = 1
code_of Bias = 2
code_of Weight = 3
code_of Sample = 4

-- 1 to 4; any other byte stands for no kind
abbrev pub known_kind : ℕ → Result RecordKind UnknownCode
known_kind code =
    cond (code == 1) (Ok Layer)
    (cond (code == 2) (Ok Bias)
    (cond (code == 3) (Ok Weight)
    (cond (code == 4) (Ok Sample)
    (Err (record { 0 = code })))))

-- 0 and 1; any other byte stands for no activation
abbrev pub known_activation : ℕ → Result Activation UnknownCode
known_activation code = cond (code == 0) (Ok Identity) (cond (code == 1) (Ok Tanh) (Err (record { 0 = code })))
