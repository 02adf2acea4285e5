use Rattle.tree_read.proofs.fields.read_fields.Goals as goal

pub returns-in-Ok-put_list : goal.returns-in-Ok-put_list
returns-in-Ok-put_list g c = record {
  list = c.all_fields.new.fields;
  read = c.in-Ok.ensures;
  number = c.in-Ok-put_list.ensures.number;
  lists = c.in-Ok-put_list.ensures.lists;
}
