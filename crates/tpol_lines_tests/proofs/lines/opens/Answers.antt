use Rattle.tpol_lines_tests.proofs.lines.opens.Goals as goal

-- the opening names no path, so it is one of these whatever they are
pub opening_line-requires-clause-listed : goal.opening_line-requires-clause-listed
opening_line-requires-clause-listed c = c.requires.listed _
