-- An image whose bytes stand elsewhere, as the code says it.
use Rattle.vab_model.specs.declared.state.Image.{Image}
use Rattle.vab_machine.specs.declared.images.ImageView.{ImageView}

abbrev pub image_of : ImageView → Image
image_of v = record { name = v.name; group = v.group; bytes = v.bytes.now }
