-- What a field, a line or a script says, or why it is refused.
use Rattle.std.specs.Prelude.{◌≡◌, Result, Ok, Err}
use Rattle.fs_script.specs.declared.fault.LineFault.{LineFault}
use Rattle.fs_script.specs.declared.fault.LineFault.TheVariants.{Bad, Memory}
use Rattle.fs_script.specs.declared.fault.ScriptWhy.{ScriptWhy}

abbrev pub Reading : Type 0 → Type 0
Reading A = Result A ScriptWhy

infixl 10 ◌>>=◌
abbrev pub ◌>>=◌ : {A B : Type 0} → Reading A → (A → Reading B) → Reading B
Ok x >>= f = f x
Err why >>= f = Err why

-- what a call answers, but for want of memory
abbrev pub Tells : {A : Type 0} → Reading A → Result A LineFault → Type 0
Tells said (Ok x) = said ≡ Ok x
Tells said (Err (Bad why)) = said ≡ Err why
Tells said (Err Memory) = Unit {0}
