mod DataLaws
mod EnteredLaws
mod KeptLaws
mod PutLaws
mod StepLaws
mod WrittenLaws
