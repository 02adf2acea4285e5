use Rattle.std.proofs.Common.{true, subst}
use Rattle.core_model.specs.NameSection.{module_name}
use Rattle.core_fits.specs.Sizes.{IsLong}
use Rattle.core_fits.proofs.SectionsSized.{long_both}
use Rattle.core_fits.proofs.name_section.names_size.Goals as goal

pub returns : goal.returns
returns c =
    let name = subst (λ x. IsLong c.module_name_size-name.result (module_name x) true) c.name_of.ensures c.module_name_size-name.ensures in
    let funcs = long_both c.module_name_size-name.result c.map_size.result c.and-funcs.result _ _ _ _ name (c.map_size.ensures 0x01) c.and-funcs.ensures.bytes c.and-funcs.ensures.fits in
    let locals = long_both c.and-funcs.result c.local_map_size.result c.and-locals.result _ _ _ _ funcs (c.local_map_size.ensures 0x02) c.and-locals.ensures.bytes c.and-locals.ensures.fits in
    let types = long_both c.and-locals.result c.map_size-2.result c.and-types.result _ _ _ _ locals (c.map_size-2.ensures 0x04) c.and-types.ensures.bytes c.and-types.ensures.fits in
    let tables = long_both c.and-types.result c.map_size-3.result c.and-tables.result _ _ _ _ types (c.map_size-3.ensures 0x05) c.and-tables.ensures.bytes c.and-tables.ensures.fits in
    let memories = long_both c.and-tables.result c.map_size-4.result c.and-memories.result _ _ _ _ tables (c.map_size-4.ensures 0x06) c.and-memories.ensures.bytes c.and-memories.ensures.fits in
    long_both c.and-memories.result c.map_size-5.result c.and.result _ _ _ _ memories (c.map_size-5.ensures 0x07) c.and.ensures.bytes c.and.ensures.fits
