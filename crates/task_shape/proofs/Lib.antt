pub mod Numbers
pub mod ShapeTest
pub mod Worked
