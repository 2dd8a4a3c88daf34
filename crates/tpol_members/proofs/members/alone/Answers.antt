use Rattle.std.proofs.Common.{◌≡◌, ℕ, suc, ◌+◌, ◌-◌, List, length, take, drop, add-one, arith, length-drop}
use Rattle.std.proofs.lemmas.List.{drop-map, take_all}
use Rattle.tpol_members.proofs.members.alone.Goals as goal

-- the items from this one on, taken to the end
to_end : {A : Type 0} (xs : List A) (k : ℕ) → take (length xs - k) (drop k xs) ≡ drop k xs
to_end xs k = take_all (length xs - k) (drop k xs) (let left = length-drop k xs in omega (arith, left))

pub returns : goal.returns
returns c =
    rw (drop-map (λ name. name.now) (suc c.args.position) c.args.names.now, ← add-one c.args.position, ← to_end c.args.names.now (c.args.position + 1)) c.without.ensures
