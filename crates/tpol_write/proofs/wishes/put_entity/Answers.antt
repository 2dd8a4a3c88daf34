use Rattle.tpol_write.proofs.wishes.put_entity.Goals as goal

pub returns-in-Path : goal.returns-in-Path
returns-in-Path c = rw c.in-Path.is c.put_text.ensures
