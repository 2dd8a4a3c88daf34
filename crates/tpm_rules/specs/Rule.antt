-- Rules in their order: the first one that is broken, by its code, and none where all hold.
use Rattle.std.specs.Prelude.{◌≡◌, ℕ, Bool, true, false, Option, Some, None, Result, Ok, Err}
use Rattle.tpol_base.specs.declared.rc.Rc.{Rc}

-- a rule that holds, or is broken
abbrev pub unless : {A : Type 0} → Bool → A → Option A
unless true broken = None
unless false broken = Some broken

-- a rule, and behind it those that are asked where it holds
abbrev pub or_else : {A : Type 0} → Option A → Option A → Option A
or_else (Some broken) rest = Some broken
or_else None rest = rest

-- a call answers by a rule: with the code of what is broken, and with no error where all holds
abbrev pub Obeys : {T : Type 0} → Result T Rc → Option ℕ → Type 0
Obeys (Ok x) rule = rule ≡ None
Obeys (Err rc) rule = rule ≡ Some rc.code

-- the same of a call whose error is what is broken
abbrev pub Breaks : {T A : Type 0} → Result T A → Option A → Type 0
Breaks (Ok x) rule = rule ≡ None
Breaks (Err broken) rule = rule ≡ Some broken
