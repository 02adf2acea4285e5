-- What copies of references are.
use Rattle.std.specs.Prelude.{◌≡◌}
use Rattle.wast_tokens.specs.declared.error.Error.{Error}
use Rattle.wast_tokens.specs.declared.error.ErrorKind.TheVariants as errors
use Rattle.comp_items.specs.declared.items.ItemRef.{ItemRef}

-- the same kind, index and names of exports
pub record AreSame {K : Type 0} (x y : ItemRef K) : Type 0 where
  pub kind : y.kind ≡ x.kind
  pub index : y.idx ≡ x.idx
  pub names : y.export_names.items ≡ x.export_names.items

-- want of memory
abbrev pub NoRoom : Error → Type 0
NoRoom e = (e.kind ≡ errors.NoMemory) × (e.offset ≡ 0)
