-- What only a private contract cites: a key as it is read, and as the model has it. Assumes nothing.
use Rattle.model.specs.Model as model
use Rattle.fields.specs.declared.key_level.Key.{Key}
use Rattle.fields.specs.declared.key_level.Key.TheVariants.{Rsa, Dsa, Other}

abbrev pub decoded : Key → model.Key
decoded (Rsa bits) = model.rsa bits
decoded Dsa = model.dsa
decoded Other = model.other_key
