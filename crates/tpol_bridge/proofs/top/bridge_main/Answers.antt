use Rattle.std.proofs.Common.{Global, map}
use Rattle.std.specs.String.{string_bytes}
use Rattle.tpol_bridge.proofs.WhoTold.{who_told}
use Rattle.tpol_bridge.specs.Words.{request_of}
use Rattle.tpol_bridge.proofs.top.bridge_main.Goals as goal

pub returns-clause-who_told : goal.returns-clause-who_told
returns-clause-who_told g c =
    who_told (request_of (map (string_bytes {Z = Global}) c.args.words.now.items)) (g.S.Source.left c.args.source.now) (g.H.Shelf.documents c.args.shelf.now)
