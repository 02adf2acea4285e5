use Rattle.comp_wire.proofs.laws.read_is_binary.Goals as goal

pub returns-clause-binary : goal.returns-clause-binary
returns-clause-binary c = λ bytes s h. h.fits.binary

pub returns-clause-rows : goal.returns-clause-rows
returns-clause-rows c = λ bytes s h. h.fits.rows
