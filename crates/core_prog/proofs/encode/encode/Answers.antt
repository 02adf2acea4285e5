use Rattle.core_prog.proofs.encode.encode.Goals as goal

pub encode_module-requires-clause-fits : goal.encode_module-requires-clause-fits
encode_module-requires-clause-fits c = c.fits_core.ensures.fits.0 c.if-not-fits_core.false
