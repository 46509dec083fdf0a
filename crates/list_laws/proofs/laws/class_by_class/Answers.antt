use Rattle.list_laws.proofs.Classes.{classes, made_by_class}
use Rattle.list_laws.proofs.laws.class_by_class.Goals as goal

pub returns-clause-items : goal.returns-clause-items
returns-clause-items g c same ks xs all = classes same ks xs all

pub returns-clause-made : goal.returns-clause-made
returns-clause-made g c same f ks xs all = made_by_class same f ks xs all
